-- A compact bitset behind other bytes.
use Prim.Native.Nat.{ℕ, ◌+◌, ◌-◌, ◌/◌}
use mathlib.Core.Path.{◌≡◌, refl, sym, ap, ◌∙◌}
use mathlib.Core.List.{List, ◌++◌}
use mathlib.Core.Bool.{Bool, true, false, not, cond}
use lib.ListN.{length}
use lib.Dec.{ltb}
use Rattle.basics.proofs.Truth.{cond-true, cond-false}
use Rattle.bits.specs.Set.{has, words_for, some_past}
use Rattle.word_bytes.specs.Bytes.{words_in}
use Rattle.netlink.specs.Walk.{slot_number}
use Rattle.refusal.specs.declared.Refusal.TheVariants.{MissingIn, ShortBitmap, PastLength}
use Rattle.bitset_form.specs.declared.parts.BitsetParts.{BitsetParts}
use Rattle.bitset_form.specs.Bitset.{Bitset, Reading}
use Rattle.bitset_form.specs.Bitset.Bitset.{masked_bitmap, nomask_bitmap}
use Rattle.bitset_form.specs.Bitset.Reading.{refused, accepted}
use Rattle.bitset_compact.specs.Compact.{bitmap, nomask_reading, masked_reading, compact_reading}
use Rattle.bitset_moved.specs.Moved.{moved_reading}
use Rattle.bitset_moved.proofs.Walk.{there, number-moved}
use Rattle.bitset_moved.proofs.Parts.{ShiftBitset, place-moved, payload-moved}

-- the checks of VALUE under NOMASK; those of VALUE and MASK
checks : (by : ℕ) (short past : Bool) (p : ℕ) (b : Bitset)
    → cond short (refused (ShortBitmap (by + p))) (cond past (refused (PastLength (by + p))) (accepted b))
    ≡ moved_reading by (cond short (refused (ShortBitmap p)) (cond past (refused (PastLength p)) (accepted b)))
checks by true past p b = refl
checks by false true p b = refl
checks by false false p b = refl

both-checks : (by : ℕ) (short : Bool) (p : ℕ) (short' past : Bool) (q : ℕ) (b : Bitset)
    → cond short (refused (ShortBitmap (by + p))) (cond short' (refused (ShortBitmap (by + q))) (cond past (refused (PastLength (by + q))) (accepted b)))
    ≡ moved_reading by
    (cond short (refused (ShortBitmap p)) (cond short' (refused (ShortBitmap q)) (cond past (refused (PastLength q)) (accepted b))))
both-checks by true p short' past q b = refl
both-checks by false p short' past q b = checks by short' past q b

module _ (pre c : List ℕ) (n : ℕ) {p q : BitsetParts} (shift : ShiftBitset (length pre) (length c) p q) where
  whole-moved : (size : ℕ) → p.value.present ≡ true → nomask_reading (pre ++ c) n size q ≡ moved_reading (length pre) (nomask_reading c n size p)
  unfolding nomask_reading
  whole-moved size v =
      let values = bitmap c p.value in
      rw (payload-moved pre c shift.value, place-moved shift.value v)
      (checks (length pre) (ltb (length values / 4) (words_for size)) (some_past (has (words_in values)) n size) (p.value.start - 4)
      (nomask_bitmap size (has (words_in values))))

  module _ (nest nest' : ℕ) (at : nest' ≡ length pre + nest - 4) where
    lacks : (kind : ℕ) → refused (MissingIn kind nest') ≡ refused (MissingIn kind (length pre + nest - 4))
    lacks kind = ap (λ (x : ℕ). refused (MissingIn kind x)) at

    masked-moved : (size : ℕ) → p.value.present ≡ true → masked_reading (pre ++ c) nest' n size q ≡ moved_reading (length pre) (masked_reading c nest n size p)
    unfolding masked_reading
    masked-moved size v = go p.mask.present refl
      where
        go : (t : Bool) → p.mask.present ≡ t → masked_reading (pre ++ c) nest' n size q ≡ moved_reading (length pre) (masked_reading c nest n size p)
        go false e =
            cond-true (not q.mask.present) _ _ (ap not (there shift.mask ∙ e)) ∙ lacks 5
            ∙ sym (ap (moved_reading (length pre)) (cond-true (not p.mask.present) _ _ (ap not e)))
        go true e =
            let values = bitmap c p.value in
            let masks = bitmap c p.mask in
            cond-false (not q.mask.present) _ _ (ap not (there shift.mask ∙ e))
            ∙ rw (payload-moved pre c shift.value, payload-moved pre c shift.mask, place-moved shift.value v, place-moved shift.mask e)
            (both-checks (length pre) (ltb (length values / 4) (words_for size)) (p.value.start - 4) (ltb (length masks / 4) (words_for size))
            (some_past (has (words_in masks)) n size) (p.mask.start - 4) (masked_bitmap size (has (words_in values)) (has (words_in masks))))
            ∙ sym (ap (moved_reading (length pre)) (cond-false (not p.mask.present) _ _ (ap not e)))

    -- by which of SIZE, VALUE and NOMASK stand
    by_flags : (size value nomask : Bool) {size' value' nomask' : Bool} (whole masked : Reading) {whole' masked' : Reading}
        → size' ≡ size → value' ≡ value → nomask' ≡ nomask
        → (value ≡ true → whole' ≡ moved_reading (length pre) whole) → (value ≡ true → masked' ≡ moved_reading (length pre) masked)
        → cond (not size') (refused (MissingIn 2 nest')) (cond (not value') (refused (MissingIn 4 nest')) (cond nomask' whole' masked'))
        ≡ moved_reading (length pre) (cond (not size) (refused (MissingIn 2 nest)) (cond (not value) (refused (MissingIn 4 nest)) (cond nomask whole masked)))
    by_flags false value nomask whole masked es ev eo w m = rw es (lacks 2)
    by_flags true false nomask whole masked es ev eo w m = rw (es, ev) (lacks 4)
    by_flags true true true whole masked es ev eo w m = rw (es, ev, eo) (w refl)
    by_flags true true false whole masked es ev eo w m = rw (es, ev, eo) (m refl)

    pub compact-moved : compact_reading (pre ++ c) nest' n q ≡ moved_reading (length pre) (compact_reading c nest n p)
    unfolding compact_reading
    compact-moved =
        let size = slot_number c p.size in
        let same = number-moved pre c shift.size in
        by_flags p.size.present p.value.present p.nomask.present (nomask_reading c n size p) (masked_reading c nest n size p)
        (there shift.size) (there shift.value) (there shift.nomask)
        (λ v. ap (λ (k : ℕ). nomask_reading (pre ++ c) n k q) same ∙ whole-moved size v)
        (λ v. ap (λ (k : ℕ). masked_reading (pre ++ c) nest' n k q) same ∙ masked-moved size v)
