use Rattle.response.proofs.Laws.{ack-length-laws}
use borrow.Author.Rules.{rules}
use Rattle.response.proofs.ack_length.Goals as goal

pub returns-then-h-eq1 : goal.returns-then-h-eq1
returns-then-h-eq1 c = search (rules, ack-length-laws)

pub returns : goal.returns
returns c = search (rules, ack-length-laws)
