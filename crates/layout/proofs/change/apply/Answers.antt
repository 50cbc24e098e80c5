use lib.ListN.{length-take}
use native.Mathlib.Omega.{arith}
use Rattle.layout.proofs.change.Laws.{apply-is}
use native.Mathlib.Omega.{arith}
use borrow.Author.Rules.{rules}
use Rattle.layout.proofs.change.apply.Goals as goal

pub slice_bounds-merge_at-end : goal.slice_bounds-merge_at-end
slice_bounds-merge_at-end c = simp length-take (omega arith)

pub slice_bounds-merge_at-end-2 : goal.slice_bounds-merge_at-end-2
slice_bounds-merge_at-end-2 c = simp length-take (omega arith)

pub merge_at-requires : goal.merge_at-requires
merge_at-requires c = simp length-take (omega arith)

pub returns : goal.returns
returns c = apply-is _ _ _ _ _ _ (simp length-take (omega arith)) (search rules)
