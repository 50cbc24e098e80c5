use mathlib.Core.Path.{sym, ap, ◌∙◌}
use lib.ListN.{length-set}
use lib.Seq.{take_all}
use Rattle.basics.specs.Put.{put}
use Rattle.basics.proofs.Put.{put-nil, put-take}
use native.Mathlib.Omega.{arith}
use Rattle.page.proofs.bytes.put_bytes.Goals as goal

pub loop-i-init : goal.loop-i-init
loop-i-init c = (omega arith, sym (put-nil _), omega arith)

pub loop-i-preserved : goal.loop-i-preserved
loop-i-preserved c = (
  omega arith,
  rw c.loop-i.invariant.1 (put-take _ _ _ c.loop-i-test.true c.requires),
  simp length-set c.loop-i.invariant.2,
)

pub returns : goal.returns
returns c = c.loop-i.invariant.1 ∙ ap (put _) (take_all _ _ c.loop-i-test.false)
