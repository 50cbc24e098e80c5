use Prim.Native.Nat.{◌-◌, ◌≤◌}
use mathlib.Core.Path.{◌≡◌}
use Rattle.roll.specs.Record.{port_count}
use Rattle.roll.specs.Find.{has_index}
use Rattle.roll.proofs.find.Laws.{Passed}
use Rattle.roll.proofs.table.Roll.port_of_index.Given as goal

abbrev pub invariant-loop-k : goal.invariant-loop-k
invariant-loop-k l = (l.k-end ≡ port_count l.self) × (l.k ≤ port_count l.self) × Passed (has_index l.self l.wanted) l.k

abbrev pub decreases-loop-k : goal.decreases-loop-k
decreases-loop-k l = l.k-end - l.k
