use Rattle.execute.proofs.replies.Laws.{dump-here, dump-laws}
use borrow.Author.Rules.{rules}
use Rattle.execute.proofs.replies.dump.Goals as goal

pub dump_port-requires : goal.dump_port-requires
dump_port-requires c = search (rules, dump-here)

pub returns-then-request-count : goal.returns-then-request-count
returns-then-request-count c = search (rules, dump-laws)

pub returns : goal.returns
returns c = search (rules, dump-laws)
