-- Laws of a masked change of words: of one word, of a slice of them, of a part of a longer slice.
use Prim.Native.Nat.{ℕ, zero, suc, ◌+◌, ◌-◌, ◌*◌, ◌^◌, ◌≤◌, ◌<◌, min, max}
use mathlib.Core.Path.{◌≡◌, sym, ap, ap₂, ◌∙◌}
use mathlib.Core.Bool.{Bool, cond}
use mathlib.Core.List.{List, ◌++◌}
use native.Mathlib.Omega.{arith}
use lib.Dec.{eqb}
use lib.Bits.{bit_and, bit_or, and_lt, or_lt}
use lib.Pow.{ones_sub-lt}
use lib.ListN.{length, get_or, take, drop, set, length-drop}
use lib.Seq.{length-take-le}
use borrow.Rule.Slice.PartMut.{put_mid}
use Rattle.basics.specs.Put.{put, splice}
use Rattle.basics.proofs.Put.{put-take, get_or-put}
use Rattle.bits.specs.Bit.{bit, test, digit, number}
use Rattle.bits.specs.Set.{has, words_of}
use Rattle.bits.specs.Change.{merge}
use Rattle.bits.proofs.Bit.{bit-lt, bit-and, bit-or, bit_not, bit-ext, bit-number, number_lt, number-cong, digit-test}
use Rattle.bits.proofs.Words.{length-words_of, get_or-words_of, has_word}

merge-digits : (m v w : ℕ) → m < 2 → v < 2 → w < 2
    → max (min w (1 - m)) (min v m) ≡ digit (cond (eqb m 1) (eqb v 1) (eqb w 1))
merge-digits zero v w hm hv hw = omega (arith, digit-test w hw)
merge-digits (suc zero) v w hm hv hw = omega (arith, digit-test v hv)
merge-digits (suc (suc m)) v w hm hv hw = absurd (omega arith)

-- as the code computes it
abbrev pub merge_word : ℕ → ℕ → ℕ → ℕ
merge_word m v w = bit_or (bit_and w (2 ^ 32 - 1 - m)) (bit_and v m)

pub merge-lt : (m v w : ℕ) → m < 2 ^ 32 → v < 2 ^ 32 → w < 2 ^ 32 → merge_word m v w < 2 ^ 32
merge-lt m v w hm hv hw = or_lt 32 _ _ (and_lt 32 w (2 ^ 32 - 1 - m) hw (ones_sub-lt 32 m)) (and_lt 32 v m hv hm)

pub merge-word : (m v w : ℕ) → m < 2 ^ 32 → v < 2 ^ 32 → w < 2 ^ 32
    → merge_word m v w ≡ number 32 (merge (test m) (test v) (test w))
merge-word m v w hm hv hw =
    bit-ext 32 (merge_word m v w) (number 32 f) (merge-lt m v w hm hv hw) (number_lt 32 f)
    (λ i l. bit-or (bit_and w (2 ^ 32 - 1 - m)) (bit_and v m) i
    ∙ ap₂ max (bit-and w (2 ^ 32 - 1 - m) i ∙ ap (min (bit w i)) (bit_not 32 m i hm l)) (bit-and v m i)
    ∙ merge-digits (bit m i) (bit v i) (bit w i) (bit-lt m i) (bit-lt v i) (bit-lt w i)
    ∙ sym (bit-number 32 f i l))
  where
    f : ℕ → Bool
    f = merge (test m) (test v) (test w)

-- word j of a masked change
pub merged-at : (ms vs ws : List ℕ) (j : ℕ) → j < length ws
    → number 32 (merge (test (get_or ms j 0)) (test (get_or vs j 0)) (test (get_or ws j 0))) ≡ get_or (words_of (length ws) (merge (has ms) (has vs) (has ws))) j 0
merged-at ms vs ws j h =
    number-cong 32 (merge (test (get_or ms j 0)) (test (get_or vs j 0)) (test (get_or ws j 0))) (λ b. merge (has ms) (has vs) (has ws) (j * 32 + b))
    (λ b l. sym (rw (has_word ms j b l, has_word vs j b l, has_word ws j b l)))
    ∙ sym (get_or-words_of (length ws) (merge (has ms) (has vs) (has ws)) j h)

-- a loop over the words has changed one more: below j stand the new ones
pub merge-turn : (w₀ m v w : List ℕ) (j r : ℕ) → j < length w₀
    → w ≡ put w₀ (take j (words_of (length w₀) (merge (has m) (has v) (has w₀))))
    → r ≡ number 32 (merge (test (get_or m j 0)) (test (get_or v j 0)) (test (get_or w j 0)))
    → set w j r ≡ put w₀ (take (j + 1) (words_of (length w₀) (merge (has m) (has v) (has w₀))))
merge-turn w₀ m v w j r h e q =
    let new = words_of (length w₀) (merge (has m) (has v) (has w₀)) in
    let len : length new ≡ length w₀ = length-words_of (length w₀) (merge (has m) (has v) (has w₀)) in
    let old : get_or w j 0 ≡ get_or w₀ j 0 = ap (λ (l : List ℕ). get_or l j 0) e ∙ get_or-put w₀ (take j new) j (omega (arith, length-take-le j new (omega arith))) in
    ap₂ (λ (l : List ℕ) (x : ℕ). set l j x) e
    (q ∙ ap (λ (x : ℕ). number 32 (merge (test (get_or m j 0)) (test (get_or v j 0)) (test x))) old ∙ merged-at m v w₀ j h)
    ∙ put-take w₀ new j (omega arith) (omega arith)

-- a part of the words changed, as the borrow checker states the whole when the part is back
pub merge-part : (ws ys m v : List ℕ) (at n : ℕ) → at + n ≤ length ws
    → ys ≡ words_of (length (take (at + n - at) (drop at ws))) (merge (has m) (has v) (has (take (at + n - at) (drop at ws))))
    → put_mid at (at + n - at) ws ys ≡ splice at ws (words_of n (merge (has m) (has v) (has (take n (drop at ws)))))
unfolding splice put
merge-part ws ys m v at n h q =
    let k : at + n - at ≡ n = omega arith in
    let part = take n (drop at ws) in
    let f = merge (has m) (has v) (has part) in
    let len : length part ≡ n = length-take-le n (drop at ws) (rw (length-drop at ws) (omega arith)) in
    let e : ys ≡ words_of n f =
    q ∙ ap (λ (j : ℕ). words_of (length (take j (drop at ws))) (merge (has m) (has v) (has (take j (drop at ws))))) k
    ∙ ap (λ (j : ℕ). words_of j f) len in
    ap₂ (λ (j : ℕ) (l : List ℕ). take at ws ++ (l ++ drop j (drop at ws))) (k ∙ sym (length-words_of n f)) e
