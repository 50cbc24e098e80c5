use Prim.Native.Nat.{◌-◌}
use lib.ListN.{length}
use Rattle.roll.proofs.table.Laws.{Filled}
use Rattle.roll.proofs.table.read_ports.Given as goal

abbrev pub invariant-loop-port : goal.invariant-loop-port
invariant-loop-port l = Filled l.roll l.table l.count l.at

abbrev pub decreases-loop-port : goal.decreases-loop-port
decreases-loop-port l = length l.roll - l.at
