use lib.ListN.{length-take}
use native.Mathlib.Omega.{arith}
use Rattle.box_fault.proofs.Laws.{box_laws, roll-few, sizes-few}
use borrow.Author.Rules.{rules}
use Rattle.box_fault.proofs.box_fault.Goals as goal

pub returns-then-family-lt16 : goal.returns-then-family-lt16
returns-then-family-lt16 c = search (rules, box_laws)

pub returns-then-family-gt65535 : goal.returns-then-family-gt65535
returns-then-family-gt65535 c = search (rules, box_laws)

pub returns-then-admin-gt1 : goal.returns-then-admin-gt1
returns-then-admin-gt1 c = search (rules, box_laws)

pub slice_bounds-ports-end : goal.slice_bounds-ports-end
slice_bounds-ports-end c = simp length-take (omega arith)

pub returns-then-not-roll_right : goal.returns-then-not-roll_right
returns-then-not-roll_right c = search (rules, box_laws)

pub returns-then-not-names_right : goal.returns-then-not-names_right
returns-then-not-names_right c = search (rules, box_laws)

pub returns-then-not-names_right-2 : goal.returns-then-not-names_right-2
returns-then-not-names_right-2 c = search (rules, box_laws)

pub settings_fault-requires : goal.settings_fault-requires
settings_fault-requires c = search (rules, roll-few, sizes-few)

pub returns : goal.returns
returns c = search (rules, box_laws)
