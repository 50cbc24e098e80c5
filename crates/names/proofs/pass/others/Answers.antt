use Prim.Native.Nat.{◌+◌, ◌-◌}
use mathlib.Core.List.{[]}
use Rattle.names.proofs.Passing.{others-start, others-turn}
use Rattle.names.proofs.pass.others.Goals as goal

pub loop-entry-init : goal.loop-entry-init
loop-entry-init c = others-start _ _ _ _

pub loop-entry-preserved : goal.loop-entry-preserved
loop-entry-preserved c =
    let a = c.args in
    let chunks = c.as_chunks.ensures in
    let l = c.loop-entry in
    others-turn a.names.now a.place a.byte a.i c.requires.0 (a.i + a.n - a.i) l.entry-index _ [] l.other chunks.front chunks.front_len c.loop-entry-test.true l.invariant
