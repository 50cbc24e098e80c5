use Rattle.roll.proofs.record.Laws.{size-laws}
use borrow.Author.Rules.{rules}
use Rattle.roll.proofs.record.record_size.Goals as goal

pub returns-then-kind-eq1 : goal.returns-then-kind-eq1
returns-then-kind-eq1 c = search (rules, size-laws)

pub returns : goal.returns
returns c = search (rules, size-laws)
