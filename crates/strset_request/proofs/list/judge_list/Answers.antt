use Rattle.strset_request.proofs.list.Laws.{list-laws}
use borrow.Author.Rules.{rules}
use Rattle.strset_request.proofs.list.judge_list.Goals as goal

pub returns-then-nest : goal.returns-then-nest
returns-then-nest c = search (rules, list-laws)

pub returns : goal.returns
returns c = search (rules, list-laws)
