-- The entries from i up to r have another byte there.
use Prim.Native.Nat.{◌-◌, ◌/◌}
use lib.ListN.{length}
use Rattle.names.specs.Pass.{Others}
use Rattle.names.proofs.pass.pass_fours.Given as goal

-- The entries from i up to r have another byte there.
abbrev pub invariant-loop-r : goal.invariant-loop-r
invariant-loop-r l = Others l.names l.place l.byte l.i l.r

abbrev pub decreases-loop-r : goal.decreases-loop-r
decreases-loop-r l = length l.names / 32 - l.r
