-- The second halves of the entries so far are right.
use mathlib.Core.Path.{◌≡◌}
use mathlib.Core.Bool.{true}
use Rattle.basics.specs.Scan.{all}
use Rattle.names.specs.Halves.{high_right}
use Rattle.names.proofs.rule.high_right.Given as goal

-- The second halves of the entries so far are right.
abbrev pub invariant-loop-entry : goal.invariant-loop-entry
invariant-loop-entry l = all l.entry-index (high_right l.names) ≡ true
