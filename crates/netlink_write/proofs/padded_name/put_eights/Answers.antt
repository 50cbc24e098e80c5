use mathlib.Core.Path.{refl}
use native.Mathlib.Omega.{arith}
use borrow.Author.Rules.{rules}
use Rattle.netlink_write.proofs.padded_name.Laws.{copied_none, copied_more}
use Rattle.netlink_write.proofs.padded_name.put_eights.Goals as goal

pub loop-at-init : goal.loop-at-init
loop-at-init c = (copied_none _ _, refl)

pub loop-at-preserved : goal.loop-at-preserved
loop-at-preserved c =
    let loop = c.loop-at in
    let page = c.put_chunk in (
      copied_more _ _ _ _ _ loop.invariant.0 c.requires 8 _ (omega arith) refl c.some_nul.ensures c.if-some_nul.false page.ensures,
      search rules,
    )
