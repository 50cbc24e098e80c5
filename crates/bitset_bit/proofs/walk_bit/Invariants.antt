use Prim.Native.Nat.{◌-◌}
use lib.ListN.{length}
use Rattle.bitset_bit.proofs.Laws.{BitFrom}
use Rattle.bitset_bit.proofs.walk_bit.Given as goal

abbrev pub invariant-loop-x : goal.invariant-loop-x
invariant-loop-x l = BitFrom l.s l.from l.index l.name l.on l.at

abbrev pub decreases-loop-x : goal.decreases-loop-x
decreases-loop-x l = length l.s - l.at
