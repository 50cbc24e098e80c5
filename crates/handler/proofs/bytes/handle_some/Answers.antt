use lib.ListN.{length-take}
use native.Mathlib.Omega.{arith}
use borrow.Author.Rules.{rules}
use Rattle.handler.proofs.bytes.handle_some.Goals as goal

pub slice_bounds-words-end : goal.slice_bounds-words-end
slice_bounds-words-end c = simp length-take (omega arith)

pub handle_in-requires : goal.handle_in-requires
handle_in-requires c = (search rules, simp length-take (omega arith))

pub slice_bounds-words-end-2 : goal.slice_bounds-words-end-2
slice_bounds-words-end-2 c = simp length-take (omega arith)

pub handle_in-requires-2 : goal.handle_in-requires-2
handle_in-requires-2 c = (search rules, simp length-take (omega arith))
