use Prim.Native.Nat.{◌-◌}
use lib.ListN.{length}
use Rattle.bitset_list.proofs.Laws.{BitsFrom}
use Rattle.name_index.specs.NamesIn.{names_in}
use Rattle.bitset_list.proofs.judge_bits.Given as goal

abbrev pub invariant-loop-x : goal.invariant-loop-x
invariant-loop-x l = BitsFrom l.s (names_in l.names) l.from (record { mask = l.mask; value = l.value }) l.at

abbrev pub decreases-loop-x : goal.decreases-loop-x
decreases-loop-x l = length l.s - l.at
