use Rattle.roll.specs.Record.{port_count}
use Prim.Native.Nat.{◌-◌, ◌≤◌}
use mathlib.Core.Path.{◌≡◌}
use Rattle.roll_rule.specs.Rule.{is_new}
use Rattle.roll_rule.proofs.Laws.{Kept}
use Rattle.roll_rule.proofs.distinct.few_distinct.Given as goal

abbrev pub invariant-loop-k : goal.invariant-loop-k
invariant-loop-k l = (l.k-end ≡ port_count l.roll) × (l.k ≤ port_count l.roll) × Kept (is_new l.roll) l.k

abbrev pub decreases-loop-k : goal.decreases-loop-k
decreases-loop-k l = l.k-end - l.k
