-- The entries from i up to r have another byte there.
use Rattle.names.specs.Pass.{Others}
use Rattle.names.proofs.pass.next_with.Given as goal

-- The entries from i up to r have another byte there.
abbrev pub invariant-loop-r : goal.invariant-loop-r
invariant-loop-r l = Others l.names l.place l.byte l.i l.r
