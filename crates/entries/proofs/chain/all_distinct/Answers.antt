use mathlib.Core.Path.{refl}
use native.Mathlib.Omega.{arith}
use Rattle.entries.proofs.Chains.{head-zero, links-zero}
use Rattle.entries.proofs.chain.all_distinct.Goals as goal

pub distinct_in-requires : goal.distinct_in-requires
distinct_in-requires c = record { head_len = (refl, refl, omega arith); head_right = (head-zero _, links-zero) }
