use native.Mathlib.Omega.{arith}
use lib.ListN.{length-take}
use Rattle.box_fault.proofs.longest.Laws.{names-start, names-here, names-down, names-none}
use Rattle.box_fault.proofs.longest.right_names.Goals as goal

pub loop-n-init : goal.loop-n-init
loop-n-init c = let e = c.smaller-n.ensures in (omega arith, names-start _ _ e)

pub slice_bounds-names_right-end : goal.slice_bounds-names_right-end
slice_bounds-names_right-end c = simp length-take (omega arith)

pub returns-then-names_right : goal.returns-then-names_right
returns-then-names_right c =
    let l = c.loop-n.invariant in
    names-here _ _ l.0 l.1 c.loop-n-test.true _ c.names_right.ensures c.if-names_right.true

pub loop-n-preserved : goal.loop-n-preserved
loop-n-preserved c =
    let l = c.loop-n.invariant in
    (omega arith, names-down _ _ l.0 l.1 c.loop-n-test.true _ c.names_right.ensures c.if-names_right.false)

pub returns : goal.returns
returns c = names-none _ _ c.loop-n.invariant.1 c.loop-n-test.false
