-- The tables hold the chains of the entries below i, all of which are new.
use Prim.Native.Nat.{◌≤◌, ◌/◌}
use lib.ListN.{length}
use Rattle.entries.proofs.Chains.{Linked}
use Rattle.entries.proofs.chain.distinct_in.Given as goal

-- The tables hold the chains of the entries below i, all of which are new.
abbrev pub invariant-entries : goal.invariant-entries
invariant-entries l = (l.i ≤ length l.list / 32) × Linked l.list l.head l.links l.i
