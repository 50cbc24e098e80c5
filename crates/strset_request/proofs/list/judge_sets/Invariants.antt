use Prim.Native.Nat.{◌-◌}
use lib.ListN.{length}
use Rattle.strset_request.proofs.list.Laws.{SetsFrom}
use Rattle.strset_request.proofs.list.judge_sets.Given as goal

abbrev pub invariant-loop-x : goal.invariant-loop-x
invariant-loop-x l = SetsFrom l.s l.named l.from l.sets l.at

abbrev pub decreases-loop-x : goal.decreases-loop-x
decreases-loop-x l = length l.s - l.at
