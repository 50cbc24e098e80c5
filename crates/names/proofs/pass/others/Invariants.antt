-- Of the entries so far each has another byte there, or not.
use mathlib.Core.Path.{◌≡◌}
use Rattle.basics.specs.Scan.{all}
use Rattle.names.specs.Pass.{other_at}
use Rattle.names.proofs.pass.others.Given as goal

-- Of the entries so far each has another byte there, or not.
abbrev pub invariant-loop-entry : goal.invariant-loop-entry
invariant-loop-entry l = l.other ≡ all l.entry-index (other_at l.names l.place l.byte l.i)
