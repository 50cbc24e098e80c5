use Rattle.request.proofs.header.Laws.{dump-laws}
use borrow.Author.Rules.{rules}
use Rattle.request.proofs.header.judge_dump_parts.Goals as goal

pub returns-then-gives_port : goal.returns-then-gives_port
returns-then-gives_port c = search (rules, dump-laws)

pub returns : goal.returns
returns c = search (rules, dump-laws)
