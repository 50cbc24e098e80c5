use Prim.Native.Nat.{◌-◌, ◌≤◌}
use Rattle.roll_rule.specs.Rule.{another}
use Rattle.roll_rule.proofs.Laws.{Kept}
use Rattle.roll_rule.proofs.distinct.is_new.Given as goal

abbrev pub invariant-loop-j : goal.invariant-loop-j
invariant-loop-j l = (l.j ≤ l.k) × Kept (another l.roll l.number l.field) l.j

abbrev pub decreases-loop-j : goal.decreases-loop-j
decreases-loop-j l = l.k - l.j
