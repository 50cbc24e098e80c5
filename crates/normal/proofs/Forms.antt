-- Demand 3, "forms decide": two bitsets change every starting set alike exactly when their normal forms are equal bytes.
use Prim.Native.Nat.{ℕ, ◌+◌, ◌*◌, ◌%◌, ◌≤◌}
use mathlib.Core.Path.{◌≡◌, sym, ap, ap₂, ◌∙◌}
use mathlib.Core.List.{List, ◌++◌}
use mathlib.Core.Bool.{Bool}
use lib.ListN.{length, take, drop}
use lib.Seq.{take_at, drop_at}
use native.Mathlib.Omega.{arith}
use Rattle.basics.specs.Numbers.{le32}
use Rattle.bits.specs.Set.{words_of, words_for}
use Rattle.word_bytes.specs.Bytes.{bytes_of}
use Rattle.bits.proofs.Words.{length-words_of, take-words_of}
use Rattle.word_bytes.proofs.WordBytes.{length-bytes_of, bytes_same}
use Rattle.bits.proofs.Change.{alike-words, words-alike}
use Rattle.netlink_write.specs.Headers.{attribute_header_bytes}
use Rattle.netlink_write.specs.Attributes.{attr}
use Rattle.netlink_write.proofs.headers.Laws.{length-attribute-header}
use Rattle.netlink_write.proofs.attributes.Laws.{length-attr, attr-whole}
use Rattle.bitset_form.specs.Bitset.{Bitset, mask_of, value_of}
use Rattle.bitset_write.specs.Form.{parts_bytes, form_bytes}
use Rattle.normal.specs.Normal.{normal_form}
use Rattle.normal.specs.Fits.{Fits}
use Rattle.normal.specs.Claims.{ActAlike}
use Rattle.normal.proofs.Effect.{mask_below, value-within, alike-merge, merge-alike}

-- the normal form's bytes, in the words that the set has
pub normal-bytes : (n : ℕ) (b : Bitset) → n ≤ 512
    → normal_form n b ≡ parts_bytes n (words_of (words_for n) (value_of b)) (words_of (words_for n) (mask_of n b))
unfolding normal_form form_bytes
normal-bytes n b h =
    ap₂ (parts_bytes n) (take-words_of (words_for n) 16 (value_of b) (omega arith)) (take-words_of (words_for n) 16 (mask_of n b) (omega arith))

-- two lists in a row are known by their parts, where the first parts are equally long
split : (n : ℕ) (a b c d : List ℕ) → length a ≡ n → length c ≡ n → a ++ b ≡ c ++ d → (a ≡ c) × (b ≡ d)
split n a b c d la lc e =
    (sym (take_at a b n la) ∙ ap (take n) e ∙ take_at c d n lc, sym (drop_at a b n la) ∙ ap (drop n) e ∙ drop_at c d n lc)

attr-inj : (kind : ℕ) (p q : List ℕ) → length p ≡ length q → length p % 4 ≡ 0 → attr kind p ≡ attr kind q → p ≡ q
attr-inj kind p q l z e =
    (split 4 (attribute_header_bytes (length p + 4) kind) p (attribute_header_bytes (length q + 4) kind) q
    (length-attribute-header (length p + 4) kind) (length-attribute-header (length q + 4) kind)
    (sym (attr-whole kind p z) ∙ e ∙ attr-whole kind q (rw l at z))).1

-- equal bytes are of equal words
parts-inj : (n w : ℕ) (f g f' g' : ℕ → Bool) → parts_bytes n (words_of w f) (words_of w g) ≡ parts_bytes n (words_of w f') (words_of w g')
    → (words_of w f ≡ words_of w f') × (words_of w g ≡ words_of w g')
unfolding parts_bytes
parts-inj n w f g f' g' e =
    let long : (h : ℕ → Bool) → length (bytes_of (words_of w h)) ≡ w * 4 = λ h. length-bytes_of (words_of w h) ∙ ap (λ (k : ℕ). k * 4) (length-words_of w h) in
    let len : (h : ℕ → Bool) → length (attr 4 (bytes_of (words_of w h))) ≡ w * 4 + 4 = λ h. omega (arith, length-attr 4 (bytes_of (words_of w h)), long h) in
    let rest = (split 8 (attr 2 (le32 n)) _ (attr 2 (le32 n)) _ (length-attr 2 (le32 n)) (length-attr 2 (le32 n)) e).1 in
    let two = split (w * 4 + 4) (attr 4 (bytes_of (words_of w f))) _ (attr 4 (bytes_of (words_of w f'))) _ (len f) (len f') rest in
    let value = attr-inj 4 (bytes_of (words_of w f)) (bytes_of (words_of w f')) (long f ∙ sym (long f')) (omega (arith, long f)) two.0 in
    let mask = attr-inj 5 (bytes_of (words_of w g)) (bytes_of (words_of w g')) (long g ∙ sym (long g')) (omega (arith, long g)) two.1 in
    (bytes_same w f f' value, bytes_same w g g' mask)

module _ (n : ℕ) (few : n ≤ 512) (b c : Bitset) (fb : Fits n b) (fc : Fits n c) where
  -- acting alike gives equal bytes
  pub alike-forms : ActAlike n b c → normal_form n b ≡ normal_form n c
  alike-forms h =
      let w = alike-words n (words_for n) (omega arith) (mask_of n b) (value_of b) (mask_of n c) (value_of c) (mask_below n b fb) (mask_below n c fc) (value-within n b fb) (value-within n c fc) (alike-merge n b c fb fc h) in
      normal-bytes n b few ∙ ap₂ (parts_bytes n) w.1 w.0 ∙ sym (normal-bytes n c few)

  -- equal bytes act alike
  pub forms-alike : normal_form n b ≡ normal_form n c → ActAlike n b c
  forms-alike e =
      let p = parts-inj n (words_for n) (value_of b) (mask_of n b) (value_of c) (mask_of n c) (sym (normal-bytes n b few) ∙ e ∙ normal-bytes n c few) in
      merge-alike n b c fb fc
      (words-alike n (words_for n) (omega arith) (mask_of n b) (value_of b) (mask_of n c) (value_of c) (mask_below n b fb) (mask_below n c fc) (value-within n b fb) (value-within n c fc)
      p.1 p.0)
