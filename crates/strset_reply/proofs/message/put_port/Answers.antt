use Rattle.strset_reply.proofs.message.Laws.{port-laws}
use borrow.Author.Rules.{rules}
use Rattle.strset_reply.proofs.message.put_port.Goals as goal

pub returns-then-not-named : goal.returns-then-not-named
returns-then-not-named c = search (rules, port-laws)

pub returns : goal.returns
returns c = search (rules, port-laws)
