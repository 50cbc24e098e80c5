use Rattle.request.proofs.header.Laws.{parts_laws}
use borrow.Author.Rules.{rules}
use Rattle.request.proofs.header.judge_header_parts.Goals as goal

pub returns-then-not-gives_port : goal.returns-then-not-gives_port
returns-then-not-gives_port c = search (rules, parts_laws)

pub returns : goal.returns
returns c = search (rules, parts_laws)
