use Prim.Native.Nat.{◌*◌, ◌≤◌}
use lib.ListN.{length}
use Rattle.names.specs.Rule.{names_right}
use Rattle.box_fault.proofs.longest.Laws.{From}
use Rattle.box_fault.proofs.longest.right_names.Given as goal

abbrev pub invariant-loop-n : goal.invariant-loop-n
invariant-loop-n l = (l.n * 32 ≤ length l.list) × From names_right l.list (l.n * 32)

abbrev pub decreases-loop-n : goal.decreases-loop-n
decreases-loop-n l = l.n
