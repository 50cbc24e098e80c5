use Rattle.roll.specs.Record.{port_count}
use Prim.Native.Nat.{◌-◌, ◌≤◌}
use mathlib.Core.Path.{◌≡◌}
use Rattle.roll_rule.specs.Rule.{is_new}
use Rattle.roll_rule.specs.Marks.{mark_of_index, mark_of_name, Marked}
use Rattle.roll_rule.proofs.Laws.{Kept}
use Rattle.roll_rule.proofs.marks.distinct_by.Given as goal

abbrev pub invariant-loop-k : goal.invariant-loop-k
invariant-loop-k l = (l.k-end ≡ port_count l.roll) × (l.k ≤ port_count l.roll) × Kept (is_new l.roll) l.k × Marked (mark_of_index l.roll) l.k l.indexes × Marked (mark_of_name l.roll) l.k l.names

abbrev pub decreases-loop-k : goal.decreases-loop-k
decreases-loop-k l = l.k-end - l.k
