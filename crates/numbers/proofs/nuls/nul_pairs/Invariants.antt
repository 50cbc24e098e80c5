use mathlib.Core.Path.{◌≡◌}
use lib.ListN.{length}
use Rattle.basics.specs.Scan.{all}
use Rattle.numbers.specs.Pairs.{pair_at}
use Rattle.numbers.proofs.nuls.nul_pairs.Given as goal

abbrev pub invariant-loop-first : goal.invariant-loop-first
invariant-loop-first l = l.right ≡ all (length l.yielded) (pair_at l.s l.at)
