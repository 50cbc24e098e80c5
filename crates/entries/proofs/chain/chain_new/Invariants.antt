-- Every entry from p on differs, and p is in the chain; p falls.
use Rattle.entries.proofs.Chains.{Walk}
use Rattle.entries.proofs.chain.chain_new.Given as goal

-- Every entry from p on differs, and p is in the chain; p falls.
abbrev pub invariant-loop-p : goal.invariant-loop-p
invariant-loop-p l = Walk l.list l.i l.p

abbrev pub decreases-loop-p : goal.decreases-loop-p
decreases-loop-p l = l.p
