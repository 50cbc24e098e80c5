use Rattle.execute.proofs.replies.Laws.{port-responds}
use borrow.Author.Rules.{rules}
use Rattle.execute.proofs.replies.dump_port.Goals as goal

pub returns : goal.returns
returns c = search (rules, port-responds)
