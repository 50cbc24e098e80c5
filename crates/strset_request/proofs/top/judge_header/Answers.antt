use Rattle.strset_request.proofs.top.Laws.{header-laws}
use borrow.Author.Rules.{rules}
use Rattle.strset_request.proofs.top.judge_header.Goals as goal

pub returns-then-not-parts : goal.returns-then-not-parts
returns-then-not-parts c = search (rules, header-laws)

pub returns : goal.returns
returns c = search (rules, header-laws)
