-- The tables lead to the entries from i on.
use Prim.Native.Nat.{◌≤◌}
use mathlib.Core.Path.{◌≡◌}
use Rattle.entries.specs.Entry.{count}
use Rattle.name_index.specs.Chain.{Linked}
use Rattle.name_index.proofs.index.Given as goal

-- The tables lead to the entries from i on.
abbrev pub invariant-loop-i : goal.invariant-loop-i
invariant-loop-i l = (l.i ≤ l.n) × (l.n ≡ count l.names) × Linked l.names l.head l.links l.i
