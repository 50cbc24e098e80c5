-- Laws of the loops that fill sixteen words with a set, word by word.
use Prim.Native.Nat.{ℕ, ◌+◌, ◌*◌, ◌≤◌, ◌<◌}
use mathlib.Core.Path.{◌≡◌, refl, sym, ap, ◌∙◌}
use mathlib.Core.List.{List}
use mathlib.Core.Bool.{Bool, true, false, ◌&&◌, cond, and_comm}
use lib.ListN.{length, take, set, get_or, replicate}
use lib.Seq.{take_all}
use lib.Dec.{ltb}
use native.Mathlib.Omega.{arith}
use Rattle.basics.specs.Put.{put}
use Rattle.basics.proofs.Put.{put-nil, put-take, put_whole}
use Rattle.bits.specs.Bit.{test, number}
use Rattle.bits.specs.Set.{has, word_of, words_of, all_below, put_bit}
use Rattle.word_bytes.specs.Bytes.{words_in}
use Rattle.bits.specs.Change.{merge}
use Rattle.bits.proofs.Bit.{number-cong, test_zero}
use Rattle.bits.proofs.Words.{length-words_of, get_or-words_of, has_word}
use Rattle.bitset_form.specs.Form.{cut_at, both, listed_in}

-- sixteen words of which those before j are the set's
unfoldable pub filled : (ℕ → Bool) → ℕ → List ℕ
filled f j = put (replicate 16 0) (take j (words_of 16 f))

pub fill_start : (f : ℕ → Bool) → replicate 16 0 ≡ filled f 0
unfolding filled
fill_start f = sym (put-nil (replicate 16 0))

module _ (f : ℕ → Bool) (w : List ℕ) (j : ℕ) (e : w ≡ filled f j) where
  pub fill_more : (r : ℕ) → j < 16 → r ≡ word_of f j → set w j r ≡ filled f (j + 1)
  unfolding filled
  fill_more r h q =
      let l : length (words_of 16 f) ≡ 16 = length-words_of 16 f in
      rw (e, q, ← get_or-words_of 16 f j h) (put-take (replicate 16 0) (words_of 16 f) j (omega arith) (omega arith))

  pub fill_done : j ≤ 16 → 16 ≤ j → w ≡ words_of 16 f
  unfolding filled
  fill_done h g =
      let l : length (words_of 16 f) ≡ 16 = length-words_of 16 f in
      e ∙ ap (put (replicate 16 0)) (take_all j (words_of 16 f) (omega arith)) ∙ put_whole (replicate 16 0) (words_of 16 f) (omega arith)

if-and : (a b c : Bool) → c ≡ false → cond a b c ≡ a && b
if-and true b c h = refl
if-and false b c h = h

-- what each loop writes is the set's word
module _ (p : List ℕ) (j w : ℕ) (e : w ≡ get_or (words_in p) j 0) where
  pub cut-word-is : (size r : ℕ) → r ≡ number 32 (λ b. test w b && all_below size (j * 32 + b))
      → r ≡ word_of (cut_at size (has (words_in p))) j
  unfolding cut_at
  cut-word-is size r q =
      q ∙ number-cong 32 _ _
      (λ b h. and_comm (test w b) (ltb (j * 32 + b) size)
      ∙ ap (λ (t : Bool). ltb (j * 32 + b) size && t) (ap (λ (x : ℕ). test x b) e ∙ sym (has_word (words_in p) j b h)))

  pub both-word-is : (m : List ℕ) (x r : ℕ) → x ≡ get_or m j 0 → r ≡ number 32 (merge (test x) (test w) (test 0))
      → r ≡ word_of (both (has m) (has (words_in p))) j
  unfolding both
  both-word-is m x r q h =
      h ∙ number-cong 32 _ _
      (λ b l. if-and (test x b) (test w b) (test 0 b) (test_zero b)
      ∙ ap (λ (t : Bool). t && test w b) (ap (λ (y : ℕ). test y b) q ∙ sym (has_word m j b l))
      ∙ ap (λ (t : Bool). has m (j * 32 + b) && t) (ap (λ (y : ℕ). test y b) e ∙ sym (has_word (words_in p) j b l)))

pub ruleset fill_laws = (fill_start, fill_more, fill_done, cut-word-is, both-word-is)

-- one more listed bit: both arrays have sixteen words
module _ (mask value : List ℕ) (i : ℕ) (on : Bool) (long-mask : length mask ≡ 16) (long-value : length value ≡ 16) where
  pub list_bit_is : (m v : List ℕ) → m ≡ words_of (length mask) (put_bit i true (has mask)) → v ≡ words_of (length value) (put_bit i on (has value))
      → record { mask = m; value = v } ≡ listed_in (record { mask = mask; value = value }) i on
  unfolding listed_in
  list_bit_is m v em ev = rw (em, ev, long-mask, long-value)
