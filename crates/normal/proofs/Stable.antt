-- Demand 3, "form is stable": a normal form is itself accepted, acts as the original, and its normal form is the same bytes.
use Prim.Native.Nat.{ℕ, ◌+◌, ◌*◌, ◌/◌, ◌≤◌, ◌<◌}
use mathlib.Core.Path.{◌≡◌, refl, sym, ap, ap₂, ◌∙◌}
use mathlib.Core.List.{List, [], ◌∷◌, ◌++◌, append_assoc, append-nil}
use mathlib.Core.Bool.{Bool, true, false, ◌&&◌, not}
use lib.ListN.{length, length-append}
use lib.Dec.{ltb}
use native.Mathlib.Omega.{arith}
use borrow.Author.Tests.{le-ltb, lt-leb}
use Rattle.basics.specs.Numbers.{le32}
use Rattle.basics.proofs.Numbers.{u32-le32}
use Rattle.basics.proofs.Scan.{any_none}
use Rattle.basics.proofs.Truth.{cond-false}
use Rattle.bits.specs.Set.{has, words_of, words_for, some_past, past}
use Rattle.word_bytes.specs.Bytes.{bytes_of}
use Rattle.bits.proofs.Words.{length-words_of}
use Rattle.word_bytes.proofs.WordBytes.{Small, small-words_of, length-bytes_of, words-of-bytes}
use Rattle.entries.specs.Entry.{count}
use Rattle.names.specs.Rule.{names_right}
use Rattle.names.proofs.Rules.{right-means}
use Rattle.netlink_attributes.specs.Attributes.{attributes, part_of}
use Rattle.netlink_attributes.specs.Attributes.Attributes.{done, attribute}
use Rattle.netlink.specs.Policy.{rule_of, plain, judged}
use Rattle.netlink.specs.Walk.{found, absent, first_fault, last_of_type, walked, slot_number}
use Rattle.netlink.specs.declared.walk.Slot.{Slot}
use Rattle.netlink.specs.declared.walk.Stop.TheVariants as S
use Rattle.netlink_write.specs.Attributes.{attr}
use Rattle.netlink_write.proofs.attributes.Laws.{length-attr}
use Rattle.netlink_write.proofs.ReadBack.{payload-back, attributes-back, attributes-end}
use Rattle.bitset_form.specs.Parts.{bitset_parts}
use Rattle.bitset_form.specs.declared.parts.BitsetParts.{BitsetParts}
use Rattle.bitset_form.specs.Policies.{bitset_policy}
use Rattle.bitset_form.specs.Bitset.Bitset.{masked_bitmap}
use Rattle.bitset_form.specs.Bitset.Reading.{accepted}
use Rattle.bitset_compact.specs.Compact.{masked_reading, compact_reading}
use Rattle.bitset.specs.Judge.{mixed_at, bitset_parts_reading, bitset_reading}
use Rattle.bitset_write.specs.Form.{parts_bytes}

-- The three attributes of a form, read back.
module _ (n w : ℕ) (vs ms : List ℕ) (lv : length vs ≡ w) (lm : length ms ≡ w) (few : w ≤ 16) where
  form : List ℕ
  form = parts_bytes n vs ms

  size : List ℕ
  size = attr 2 (le32 n)

  value : List ℕ
  value = attr 4 (bytes_of vs)

  mask : List ℕ
  mask = attr 5 (bytes_of ms)

  form-is : form ≡ size ++ (value ++ mask)
  unfolding form size value mask parts_bytes
  form-is = refl

  form-split : form ≡ (size ++ value) ++ (mask ++ [])
  form-split = form-is ∙ sym (append_assoc size value (mask ++ []) ∙ ap (λ (l : List ℕ). size ++ (value ++ l)) (append-nil mask))

  lengths : (length size ≡ 8) × (length value ≡ 4 + w * 4) × (length mask ≡ 4 + w * 4)
  unfolding size value mask
  lengths =
      (length-attr 2 (le32 n), omega (arith, length-attr 4 (bytes_of vs), length-bytes_of vs, lv), omega (arith, length-attr 5 (bytes_of ms), length-bytes_of ms, lm))

  size_back : part_of form 4 8 ≡ le32 n
  unfolding size
  size_back = ap (λ (l : List ℕ). part_of l 4 8) form-is ∙ payload-back [] (value ++ mask) (le32 n) 2

  value-back : part_of form 12 (12 + w * 4) ≡ bytes_of vs
  unfolding value
  value-back =
      let l = lengths in
      let a : length size + 4 ≡ 12 = omega arith in
      let e : length size + 4 + length (bytes_of vs) ≡ 12 + w * 4 = omega (arith, length-bytes_of vs, lv) in
      ap (λ (l : List ℕ). part_of l 12 (12 + w * 4)) form-is ∙ ap₂ (part_of (size ++ (value ++ mask))) (sym a) (sym e) ∙ payload-back size mask (bytes_of vs) 4

  mask-back : part_of form (16 + w * 4) (16 + w * 4 + w * 4) ≡ bytes_of ms
  unfolding mask
  mask-back =
      let l = lengths in
      let a : length (size ++ value) + 4 ≡ 16 + w * 4 = omega (arith, length-append size value) in
      let e : length (size ++ value) + 4 + length (bytes_of ms) ≡ 16 + w * 4 + w * 4 = omega (arith, length-append size value, length-bytes_of ms, lm) in
      ap (λ (l : List ℕ). part_of l (16 + w * 4) (16 + w * 4 + w * 4)) form-split
      ∙ ap₂ (part_of ((size ++ value) ++ (mask ++ []))) (sym a) (sym e) ∙ payload-back (size ++ value) [] (bytes_of ms) 5

  last : attributes form (12 + w * 4) ≡ attribute 5 0 (16 + w * 4) (16 + w * 4 + w * 4) done
  unfolding mask
  last =
      let l = lengths in
      let at : length (size ++ value) ≡ 12 + w * 4 = omega (arith, length-append size value) in
      let a : length (size ++ value) + 4 ≡ 16 + w * 4 = omega arith in
      let e : length (size ++ value) + 4 + length (bytes_of ms) ≡ 16 + w * 4 + w * 4 = omega (arith, length-bytes_of ms, lm) in
      let all : length form ≤ length (size ++ value) + length mask = omega (arith, ap length form-is, length-append size (value ++ mask), length-append value mask) in
      ap (attributes form) (sym at) ∙ ap (λ (l : List ℕ). attributes l (length (size ++ value))) form-split
      ∙ attributes-back (size ++ value) [] (bytes_of ms) 5 (omega arith) (omega (arith, length-bytes_of ms, lm))
      ∙ ap (λ (l : List ℕ). attribute 5 0 (length (size ++ value) + 4) (length (size ++ value) + 4 + length (bytes_of ms)) (attributes l (length (size ++ value) + length mask))) (sym form-split)
      ∙ ap (attribute 5 0 (length (size ++ value) + 4) (length (size ++ value) + 4 + length (bytes_of ms))) (attributes-end form (length (size ++ value) + length mask) all)
      ∙ ap₂ (λ (x y : ℕ). attribute 5 0 x y done) a e

  middle : attributes form 8 ≡ attribute 4 0 12 (12 + w * 4) (attribute 5 0 (16 + w * 4) (16 + w * 4 + w * 4) done)
  unfolding value
  middle =
      let l = lengths in
      let at : length size ≡ 8 = l.0 in
      let a : length size + 4 ≡ 12 = omega arith in
      let e : length size + 4 + length (bytes_of vs) ≡ 12 + w * 4 = omega (arith, length-bytes_of vs, lv) in
      let next : length size + length value ≡ 12 + w * 4 = omega arith in
      ap (attributes form) (sym at) ∙ ap (λ (l : List ℕ). attributes l (length size)) form-is
      ∙ attributes-back size mask (bytes_of vs) 4 (omega arith) (omega (arith, length-bytes_of vs, lv))
      ∙ ap (λ (l : List ℕ). attribute 4 0 (length size + 4) (length size + 4 + length (bytes_of vs)) (attributes l (length size + length value))) (sym form-is)
      ∙ ap (λ (k : ℕ). attribute 4 0 (length size + 4) (length size + 4 + length (bytes_of vs)) (attributes form k)) next
      ∙ ap (attribute 4 0 (length size + 4) (length size + 4 + length (bytes_of vs))) last
      ∙ ap₂ (λ (x y : ℕ). attribute 4 0 x y (attribute 5 0 (16 + w * 4) (16 + w * 4 + w * 4) done)) a e

  all_three : attributes form 0 ≡ attribute 2 0 4 8 (attribute 4 0 12 (12 + w * 4) (attribute 5 0 (16 + w * 4) (16 + w * 4 + w * 4) done))
  unfolding size
  all_three =
      let l = lengths in
      let next : 0 + length size ≡ 8 = omega arith in
      ap (λ (l : List ℕ). attributes l 0) form-is
      ∙ attributes-back [] (value ++ mask) (le32 n) 2 (omega arith) (omega arith)
      ∙ ap (λ (l : List ℕ). attribute 2 0 4 8 (attributes l (0 + length size))) (sym form-is)
      ∙ ap (λ (k : ℕ). attribute 2 0 4 8 (attributes form k)) next
      ∙ ap (attribute 2 0 4 8) middle

  slots : List Slot
  slots = absent ∷ absent ∷ found 4 8 ∷ absent ∷ found 12 (12 + w * 4) ∷ found (16 + w * 4) (16 + w * 4 + w * 4) ∷ absent ∷ absent ∷ []

  form_walked : walked bitset_policy form 0 ≡ record { stop = S.Whole; slots = slots }
  unfolding walked slots first_fault last_of_type rule_of judged plain
  form_walked = rw (all_three, size_back)

-- a compact bitset whose SIZE is N and whose bitmaps have the words of the set
module _ (s : List ℕ) (nest n w : ℕ) (parts : BitsetParts) (vs ms : List ℕ) (here : parts.mask.present ≡ true)
    (pv : part_of s parts.value.start parts.value.end ≡ bytes_of vs) (pm : part_of s parts.mask.start parts.mask.end ≡ bytes_of ms)
    (lv : length vs ≡ w) (lm : length ms ≡ w) (ew : w ≡ words_for n) (sv : Small vs) (sm : Small ms) where
  enough : (l : List ℕ) → length l ≡ w → ltb (length (bytes_of l) / 4) (words_for n) ≡ false
  enough l e = le-ltb (length (bytes_of l) / 4) (words_for n) (omega (arith, length-bytes_of l, e, ew))

  no-past : (f : ℕ → Bool) → some_past f n n ≡ false
  unfolding some_past past
  no-past f = any_none (past n f) n (λ k l. ap (λ (t : Bool). t && f k) (lt-leb n k l))

  pub masked-form : masked_reading s nest n n parts ≡ accepted (masked_bitmap n (has vs) (has ms))
  unfolding masked_reading
  masked-form =
      cond-false (not parts.mask.present) _ _ (ap not here)
      ∙ rw (pv, pm, enough vs lv, enough ms lm, words-of-bytes ms sm, words-of-bytes vs sv, no-past (has ms))

-- the form of any mask and value
module _ (names : List ℕ) (right : names_right names ≡ true) (f g : ℕ → Bool) where
  pub parts-accepted : bitset_reading (parts_bytes (count names) (words_of (words_for (count names)) f) (words_of (words_for (count names)) g)) 0 names
      ≡ accepted (masked_bitmap (count names) (has (words_of (words_for (count names)) f)) (has (words_of (words_for (count names)) g)))
  unfolding bitset_reading bitset_parts bitset_parts_reading mixed_at compact_reading slots slot_number form
  parts-accepted =
      let k : count names ≤ 512 = (right-means names right).few in
      let u = words_for (count names) in
      let vs = words_of u f in
      let ms = words_of u g in
      let lv = length-words_of u f in
      let lm = length-words_of u g in
      let s = parts_bytes (count names) vs ms in
      let small : count names < 4294967296 = omega arith in
      rw (form_walked (count names) u vs ms lv lm (omega arith), size_back (count names) u vs ms lv lm (omega arith), u32-le32 (count names) [] small)
      (masked-form s 0 (count names) u (bitset_parts (slots (count names) u vs ms lv lm (omega arith))) vs ms refl
      (value-back (count names) u vs ms lv lm (omega arith)) (mask-back (count names) u vs ms lv lm (omega arith)) lv lm refl (small-words_of u f) (small-words_of u g))
