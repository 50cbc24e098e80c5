use Prim.Native.Nat.{◌-◌, ◌*◌, ◌≤◌}
use mathlib.Core.Path.{◌≡◌}
use lib.ListN.{length}
use Rattle.entries.specs.Entry.{count}
use Rattle.strset_reply.specs.Strings.{strings_bytes}
use Rattle.strset_reply.proofs.length.strings_length.Given as goal

abbrev pub invariant-loop-i : goal.invariant-loop-i
invariant-loop-i l = (l.i ≤ l.n) × (l.n ≡ count l.names) × (l.all ≤ l.i * 52) × (l.all ≡ length (strings_bytes l.names l.i))

abbrev pub decreases-loop-i : goal.decreases-loop-i
decreases-loop-i l = l.n - l.i
