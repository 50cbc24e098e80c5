use Prim.Native.Nat.{ℕ, ◌-◌, ◌≤◌}
use mathlib.Core.Path.{◌≡◌}
use mathlib.Core.List.{List}
use lib.ListN.{length}
use Rattle.netlink_write.specs.PaddedName.{Copied}
use Rattle.netlink_write.proofs.padded_name.put_padded_name.Given as goal

abbrev pub invariant-loop-at : goal.invariant-loop-at
invariant-loop-at l = (l.at ≤ length l.name) × (length l.page ≡ length l.initial.page) × ((P : List ℕ) → length l.name ≤ length P → Copied l.name P l.initial.page l.initial.at → Copied l.name P l.page l.at)

abbrev pub decreases-loop-at : goal.decreases-loop-at
decreases-loop-at l = length l.name - l.at
