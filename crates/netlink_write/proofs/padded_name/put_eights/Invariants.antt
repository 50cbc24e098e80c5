use Prim.Native.Nat.{◌-◌}
use mathlib.Core.Path.{◌≡◌}
use lib.ListN.{length}
use Rattle.netlink_write.specs.PaddedName.{Copied}
use Rattle.netlink_write.proofs.padded_name.put_eights.Given as goal

abbrev pub invariant-loop-at : goal.invariant-loop-at
invariant-loop-at l = Copied l.name l.initial.page l.page l.at × (length l.page ≡ length l.initial.page)

abbrev pub decreases-loop-at : goal.decreases-loop-at
decreases-loop-at l = length l.name - l.at
