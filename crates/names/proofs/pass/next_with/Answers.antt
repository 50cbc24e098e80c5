use Rattle.names.proofs.Passing.{pass-one, next_here, next-none}
use Rattle.names.proofs.pass.next_with.Goals as goal

pub loop-r-init : goal.loop-r-init
loop-r-init c = c.pass_fours-r.ensures

pub returns-then-names-r : goal.returns-then-names-r
returns-then-names-r c = next_here _ _ _ _ _ c.loop-r.invariant c.if-names-r.true

pub loop-r-preserved : goal.loop-r-preserved
loop-r-preserved c = pass-one _ _ _ _ _ c.loop-r.invariant c.loop-r-test.true c.if-names-r.false

pub returns : goal.returns
returns c = next-none _ _ _ _ _ c.loop-r.invariant c.loop-r-test.false
