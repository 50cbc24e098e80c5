-- The first halves of the entries so far are right.
use mathlib.Core.Path.{◌≡◌}
use mathlib.Core.Bool.{true}
use Rattle.basics.specs.Scan.{all}
use Rattle.names.specs.Halves.{low_right}
use Rattle.names.proofs.rule.low_right.Given as goal

-- The first halves of the entries so far are right.
abbrev pub invariant-loop-entry : goal.invariant-loop-entry
invariant-loop-entry l = all l.entry-index (low_right l.names) ≡ true
