use Prim.Native.Nat.{◌-◌, ◌≤◌}
use mathlib.Core.Path.{◌≡◌}
use lib.ListN.{length}
use Rattle.entries.specs.Entry.{count}
use Rattle.page.specs.Page.{Wrote}
use Rattle.strset_reply.specs.Strings.{strings_bytes}
use Rattle.strset_reply.proofs.strings.put_strings.Given as goal

abbrev pub invariant-loop-i : goal.invariant-loop-i
invariant-loop-i l = (l.i ≤ l.n) × (l.n ≡ count l.names) × (length l.page ≡ length l.initial.page) × Wrote (strings_bytes l.names l.i) l.initial.page l.page l.at

abbrev pub decreases-loop-i : goal.decreases-loop-i
decreases-loop-i l = l.n - l.i
