use lib.ListN.{length}
use Prim.Native.Nat.{◌≤◌}
use Rattle.roll_rule.specs.Rule.{roll_right}
use Rattle.box_fault.proofs.longest.Laws.{From}
use Rattle.box_fault.proofs.longest.right_roll.Given as goal

abbrev pub invariant-loop-n : goal.invariant-loop-n
invariant-loop-n l = (l.n ≤ length l.roll) × From roll_right l.roll l.n

abbrev pub decreases-loop-n : goal.decreases-loop-n
decreases-loop-n l = l.n
