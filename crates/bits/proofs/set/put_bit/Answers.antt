use Prim.Native.Nat.{◌*◌, ◌%◌, ◌^◌, ◌<◌}
use mathlib.Core.Path.{refl, sym, ◌∙◌}
use native.Mathlib.Omega.{arith}
use borrow.Author.Tests.{eq-eqb}
use Rattle.bits.proofs.Bit.{test-one, test_zero}
use Rattle.bits.proofs.Words.{put-words, put-past}
use Rattle.bits.proofs.set.put_bit.Goals as goal

pub returns-then-words-j : goal.returns-then-words-j
returns-then-words-j c = put-past _ _ _ c.if-words-j.true (λ j. (c.type_inv.words j).fits)

pub returns-then-v : goal.returns-then-v
returns-then-v c =
    let a = c.args in
    let k : a.i % 32 < 32 = omega arith in
    put-words a.words.now a.i a.v c.merge_word.result ((1 * 2 ^ (a.i % 32)) % 2 ^ 32) (omega arith)
    (λ j. (c.slice_known-then-v-1.given j).fits) c.merge_word.ensures
    (test-one (a.i % 32) (a.i % 32) k ∙ eq-eqb (a.i % 32) (a.i % 32) refl ∙ sym c.if-v.true)

pub returns-else-v : goal.returns-else-v
returns-else-v c =
    let a = c.args in
    put-words a.words.now a.i a.v c.merge_word-else-v.result 0 (omega arith)
    (λ j. (c.slice_known-else-v-1.given j).fits) c.merge_word-else-v.ensures
    (test_zero (a.i % 32) ∙ sym c.if-v.false)
