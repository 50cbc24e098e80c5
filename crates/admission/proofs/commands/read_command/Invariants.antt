use Prim.Native.Nat.{◌≤◌, ◌-◌}
use Rattle.admission.proofs.commands.Laws.{RowsFrom}
use Rattle.admission.proofs.commands.read_command.Given as goal

abbrev pub invariant-loop-i : goal.invariant-loop-i
invariant-loop-i l = (l.i ≤ 5) × RowsFrom l.number l.rows l.i

abbrev pub decreases-loop-i : goal.decreases-loop-i
decreases-loop-i l = 5 - l.i
