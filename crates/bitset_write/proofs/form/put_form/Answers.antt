use lib.ListN.{length-take}
use Rattle.bitset_write.proofs.form.Laws.{form-laws}
use native.Mathlib.Omega.{arith}
use native.Mathlib.Omega.{arith}
use borrow.Author.Rules.{rules}
use Rattle.bitset_write.proofs.form.put_form.Goals as goal

pub slice_bounds-put_parts-end : goal.slice_bounds-put_parts-end
slice_bounds-put_parts-end c = simp length-take (omega arith)

pub slice_bounds-put_parts-end-2 : goal.slice_bounds-put_parts-end-2
slice_bounds-put_parts-end-2 c = simp length-take (omega arith)

pub put_parts-requires : goal.put_parts-requires
put_parts-requires c = simp length-take (omega arith)

pub returns : goal.returns
returns c = record { wrote = search (rules, form-laws); upper_bound = search (rules, form-laws) }
