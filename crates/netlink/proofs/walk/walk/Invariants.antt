use Prim.Native.Nat.{◌-◌}
use mathlib.Core.Path.{◌≡◌}
use lib.ListN.{length}
use Rattle.netlink.proofs.walk.Laws.{WalkFrom}
use Rattle.netlink.proofs.walk.walk.Given as goal

abbrev pub invariant-loop-slots : goal.invariant-loop-slots
invariant-loop-slots l = (length l.slots ≡ 8) × WalkFrom l.policy l.s l.from l.slots l.at

abbrev pub decreases-loop-slots : goal.decreases-loop-slots
decreases-loop-slots l = length l.s - l.at
