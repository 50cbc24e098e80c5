use native.Mathlib.Omega.{arith}
use lib.ListN.{length-take}
use Rattle.box_fault.proofs.longest.Laws.{longest-laws, roll-start}
use borrow.Author.Rules.{rules}
use Rattle.box_fault.proofs.longest.right_roll.Goals as goal

pub loop-n-init : goal.loop-n-init
loop-n-init c = search (rules, roll-start)

pub slice_bounds-roll_keeps-end : goal.slice_bounds-roll_keeps-end
slice_bounds-roll_keeps-end c = simp length-take (omega arith)

pub returns-then-roll_keeps : goal.returns-then-roll_keeps
returns-then-roll_keeps c = search (rules, longest-laws)

pub overflow_sub-n : goal.overflow_sub-n
overflow_sub-n c = search (rules, longest-laws)

pub loop-n-smaller : goal.loop-n-smaller
loop-n-smaller c = search (rules, longest-laws)

pub loop-n-preserved : goal.loop-n-preserved
loop-n-preserved c = search (rules, longest-laws)

pub returns : goal.returns
returns c = search (rules, longest-laws)
