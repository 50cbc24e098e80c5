use Rattle.execute.proofs.Laws.{change-laws}
use borrow.Author.Rules.{rules}
use Rattle.execute.proofs.change.Goals as goal

pub set_place-at-requires : goal.set_place-at-requires
set_place-at-requires c = search (rules, change-laws)

pub apply-requires : goal.apply-requires
apply-requires c = search (rules, change-laws)

pub returns : goal.returns
returns c = search (rules, change-laws)
