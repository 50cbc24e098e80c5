-- Laws of contents that read as a bitset, over its normal form. The theorems of demand 3 (Demand3) are these, of what the normaliser answers.
--     form-bytes         what the normal form holds
--     form-read          it reads as a bitset
--     form-alike         which changes every starting set as the original does
--     form-again         normalising it gives the same bytes
--     readings-decide    two such bitsets change every starting set alike exactly when their normal forms are equal bytes
use Prim.Native.Nat.{ℕ, ◌*◌, ◌≤◌, ◌<◌}
use mathlib.Core.Path.{◌≡◌, refl, sym, ap, ap₂, ◌∙◌}
use mathlib.Core.List.{List, ◌++◌}
use mathlib.Core.Bool.{Bool, true, false, ◌&&◌, cond}
use lib.ListN.{length, length-append}
use lib.Dec.{ltb}
use native.Mathlib.Omega.{arith}
use borrow.Author.Tests.{le-ltb, ltb-false}
use Rattle.basics.specs.Numbers.{le32}
use Rattle.bits.specs.Set.{has, words_of, words_for}
use Rattle.word_bytes.specs.Bytes.{bytes_of}
use Rattle.bits.specs.Change.{Same}
use Rattle.bits.proofs.Words.{length-words_of, has-words_of, has_all, words_of-cong}
use Rattle.word_bytes.proofs.WordBytes.{length-bytes_of}
use Rattle.entries.specs.Entry.{count}
use Rattle.names.specs.Rule.{names_right}
use Rattle.names.proofs.Rules.{right-means}
use Rattle.netlink_write.specs.Attributes.{attr}
use Rattle.netlink_write.proofs.attributes.Laws.{length-attr}
use Rattle.bitset_form.specs.Bitset.{Bitset, mask_of, value_of}
use Rattle.bitset_form.specs.Bitset.Bitset.{masked_bitmap}
use Rattle.bitset_form.specs.Bitset.Reading.{accepted}
use Rattle.bitset.specs.Judge.{bitset_reading}
use Rattle.bitset_write.specs.Form.{parts_bytes}
use Rattle.normal.specs.Normal.{normal_form, normalised}
use Rattle.normal.specs.Fits.{Fits}
use Rattle.normal.specs.Claims.{ActAlike, mask_words, value_words, NormalBytes}
use Rattle.normal.proofs.Effect.{form-keeps-effect, mask_below, value-within}
use Rattle.normal.proofs.Fits.{accepted-fits}
use Rattle.normal.proofs.Forms.{normal-bytes, alike-forms, forms-alike}
use Rattle.normal.proofs.Stable.{parts-accepted}

-- the bitset that the normal form of b is
pub form_bitset : ℕ → Bitset → Bitset
form_bitset n b = masked_bitmap n (has (words_of (words_for n) (value_of b))) (has (words_of (words_for n) (mask_of n b)))

module _ (names : List ℕ) (right : names_right names ≡ true) where
  few : count names ≤ 512
  few = (right-means names right).few

  module _ (contents : List ℕ) (b : Bitset) (ok : bitset_reading contents 0 names ≡ accepted b) where
    fits : Fits (count names) b
    fits = accepted-fits contents 0 names b ok

    -- the words hold the mask and the value whole
    mask-whole : Same (has (mask_words (count names) b)) (mask_of (count names) b)
    mask-whole = has_all (words_for (count names)) (mask_of (count names) b) (λ i h. mask_below (count names) b fits i (omega arith))

    value-whole : Same (has (value_words (count names) b)) (value_of b)
    value-whole =
        has_all (words_for (count names)) (value_of b)
        (λ i h. value-within (count names) b fits i (mask_below (count names) b fits i (omega arith)))

    pub form-bytes : NormalBytes (count names) b (normal_form (count names) b)
    unfolding parts_bytes
    form-bytes = record {
      parts = normal-bytes (count names) b few;
      value-length = length-words_of (words_for (count names)) (value_of b);
      mask-length = length-words_of (words_for (count names)) (mask_of (count names) b);
      mask-holds = mask-whole;
      value-holds = value-whole;
      values-made = λ s h i. form-keeps-effect (count names) b fits s h i ∙ ap₂ (λ (m v : Bool). cond m v (s i)) (sym (mask-whole i)) (sym (value-whole i));
      mask-ends = λ i h. mask-whole i ∙ mask_below (count names) b fits i h;
      value-inside = λ i h. value-whole i ∙ value-within (count names) b fits i (sym (mask-whole i) ∙ h);
    }

    pub form-read : bitset_reading (normal_form (count names) b) 0 names ≡ accepted (form_bitset (count names) b)
    unfolding form_bitset
    form-read =
        ap (λ (l : List ℕ). bitset_reading l 0 names) (normal-bytes (count names) b few)
        ∙ parts-accepted names right (value_of b) (mask_of (count names) b)

    same-mask : (i : ℕ) → i < words_for (count names) * 32 → mask_of (count names) (form_bitset (count names) b) i ≡ mask_of (count names) b i
    unfolding mask_of form_bitset
    same-mask i l =
        ap (λ (t : Bool). ltb i (count names) && t) (has-words_of (words_for (count names)) (mask_of (count names) b) i l)
        ∙ go (ltb i (count names)) refl
      where
        go : (t : Bool) → ltb i (count names) ≡ t → t && mask_of (count names) b i ≡ mask_of (count names) b i
        go true e = refl
        go false e = sym (mask_below (count names) b fits i (ltb-false i (count names) e))

    same-value : (i : ℕ) → i < words_for (count names) * 32 → value_of (form_bitset (count names) b) i ≡ value_of b i
    unfolding value_of form_bitset
    same-value i l =
        ap₂ (λ (x y : Bool). ltb i (count names) && (x && y)) (has-words_of (words_for (count names)) (mask_of (count names) b) i l)
        (has-words_of (words_for (count names)) (value_of b) i l)
        ∙ go (ltb i (count names)) (mask_of (count names) b i) (value_of b i) refl (value-within (count names) b fits i)
        (λ (e : ltb i (count names) ≡ false). value-within (count names) b fits i (mask_below (count names) b fits i (ltb-false i (count names) e)))
      where
        go : (t m v : Bool) → ltb i (count names) ≡ t → (m ≡ false → v ≡ false) → (ltb i (count names) ≡ false → v ≡ false) → t && (m && v) ≡ v
        go true true v e h g = refl
        go true false v e h g = sym (h refl)
        go false m v e h g = sym (g e)

    same-form : normal_form (count names) (form_bitset (count names) b) ≡ normal_form (count names) b
    same-form =
        normal-bytes (count names) (form_bitset (count names) b) few
        ∙ ap₂ (parts_bytes (count names)) (words_of-cong (words_for (count names)) _ _ same-value) (words_of-cong (words_for (count names)) _ _ same-mask)
        ∙ sym (normal-bytes (count names) b few)

    pub form-alike : ActAlike (count names) (form_bitset (count names) b) b
    form-alike =
        forms-alike (count names) few (form_bitset (count names) b) b
        (accepted-fits (normal_form (count names) b) 0 names (form_bitset (count names) b) form-read) fits same-form

    form-short : length (normal_form (count names) b) ≤ 32768
    form-short =
        let v = words_of (words_for (count names)) (value_of b) in
        let m = words_of (words_for (count names)) (mask_of (count names) b) in
        let k = few in
        omega
        (arith, ap length form-bytes.parts, length-append (attr 2 (le32 (count names))) (attr 4 (bytes_of v) ++ attr 5 (bytes_of m)), length-append (attr 4 (bytes_of v)) (attr 5 (bytes_of m)), length-attr 2 (le32 (count names)), length-attr 4 (bytes_of v), length-attr 5 (bytes_of m), length-bytes_of v, length-bytes_of m, length-words_of (words_for (count names)) (value_of b), length-words_of (words_for (count names)) (mask_of (count names) b))

    pub form-again : (room : ℕ) → 144 ≤ room → normalised (normal_form (count names) b) names room ≡ record { number = 0; bytes = normal_form (count names) b }
    unfolding normalised
    form-again room h =
        rw (right, le-ltb room 144 h, le-ltb 32768 (length (normal_form (count names) b)) form-short, form-read)
        (ap (λ (l : List ℕ). record { number = 0; bytes = l }) same-form)

  -- of two accepted bitsets
  module _ (x y : List ℕ) (b c : Bitset) (okb : bitset_reading x 0 names ≡ accepted b) (okc : bitset_reading y 0 names ≡ accepted c) where
    pub readings-decide : (ActAlike (count names) b c → normal_form (count names) b ≡ normal_form (count names) c)
        × (normal_form (count names) b ≡ normal_form (count names) c → ActAlike (count names) b c)
    readings-decide =
        let fb = accepted-fits x 0 names b okb in
        let fc = accepted-fits y 0 names c okc in
        (alike-forms (count names) few b c fb fc, forms-alike (count names) few b c fb fc)
