use Rattle.response.proofs.Laws.{ack-laws}
use borrow.Author.Rules.{rules}
use Rattle.response.proofs.put_ack_if_asked.Goals as goal

pub returns-then-h-eq1 : goal.returns-then-h-eq1
returns-then-h-eq1 c = search (rules, ack-laws)

pub returns : goal.returns
returns c = search (rules, ack-laws)
