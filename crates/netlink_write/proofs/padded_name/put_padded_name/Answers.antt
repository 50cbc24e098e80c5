use Rattle.basics.proofs.Put.{rest-drop}
use Prim.Native.Nat.{◌≤◌}
use mathlib.Core.Path.{refl}
use lib.ListN.{length}
use native.Mathlib.Omega.{arith}
use borrow.Author.Rules.{rules}
use Rattle.netlink_write.proofs.padded_name.Laws.{copied_more, copied-last, copied-end}
use Rattle.netlink_write.proofs.padded_name.put_padded_name.Goals as goal

pub loop-at-init : goal.loop-at-init
loop-at-init c = (c.put_eights-at.ensures.within, refl, λ P f x. x)

pub returns-then-some_nul : goal.returns-then-some_nul
returns-then-some_nul c =
    let start = c in
    let last = c.put_last-k.ensures in
    let room : length start.args.name.now ≤ length start.args.page.now = omega (arith, start.requires) in
    let copied = c.loop-at.invariant.2 start.args.page.now room c.put_eights-at.ensures in
    let t = copied-last _ _ _ _ _ _ _ copied room (omega arith) c.some_nul.ensures c.if-some_nul.true last.value.0 last.value.1 last.page_after in
    record { value = t.0; page_after = t.1 }

pub loop-at-preserved : goal.loop-at-preserved
loop-at-preserved c = (
  omega arith,
  search rules,
  λ P f x. copied_more _ P _ _ _ (c.loop-at.invariant.2 P f x) f 4 _ (omega arith) refl c.some_nul.ensures c.if-some_nul.false c.put_chunk.ensures,
)

pub returns : goal.returns
returns c =
    let start = c in
    let few = rw (rest-drop _ start.args.name.now) at c.put_few-k.ensures in
    let room : length start.args.name.now ≤ length start.args.page.now = omega (arith, start.requires) in
    let copied = c.loop-at.invariant.2 start.args.page.now room c.put_eights-at.ensures in
    let t = copied-end _ _ _ _ _ copied room _ few.value.0 few.value.1 few.page_after in
    record { value = t.0; page_after = t.1 }
