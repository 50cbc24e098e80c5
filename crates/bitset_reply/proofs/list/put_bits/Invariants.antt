use Prim.Native.Nat.{◌-◌, ◌*◌, ◌≤◌}
use mathlib.Core.Path.{◌≡◌}
use lib.ListN.{length}
use Rattle.bits.specs.Set.{has}
use Rattle.page.specs.Page.{Wrote}
use Rattle.bitset_reply.specs.List.{bits_bytes}
use Rattle.bitset_reply.proofs.list.put_bits.Given as goal

abbrev pub invariant-loop-i : goal.invariant-loop-i
invariant-loop-i l = (l.i ≤ l.n) × (l.at ≤ l.i * 52) × (length l.page ≡ length l.initial.page) × Wrote (bits_bytes l.names (has l.words) l.i) l.initial.page l.page l.at

abbrev pub decreases-loop-i : goal.decreases-loop-i
decreases-loop-i l = l.n - l.i
