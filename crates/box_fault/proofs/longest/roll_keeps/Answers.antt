use lib.ListN.{length-take}
use native.Mathlib.Omega.{arith}
use Rattle.box_fault.proofs.longest.roll_keeps.Goals as goal

pub slice_bounds-roll_right-end : goal.slice_bounds-roll_right-end
slice_bounds-roll_right-end c = simp length-take (omega arith)
