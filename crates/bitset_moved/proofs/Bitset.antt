-- A bitset behind other bytes reads as the bitset alone, with every place moved.
--     reading-moved     for every prefix, contents and name list
use Rattle.std.specs.Prelude.{Option, Some, None}
use Prim.Native.Nat.{ℕ, ◌+◌, ◌-◌}
use mathlib.Core.Path.{◌≡◌, refl, sym, ap, ◌∙◌}
use mathlib.Core.List.{List, ◌++◌}
use mathlib.Core.Bool.{Bool, true, false, cond}
use lib.ListN.{length}
use native.Mathlib.Omega.{arith}
use Rattle.entries.specs.Entry.{count}
use Rattle.netlink.specs.Walk.{walked}
use Rattle.netlink.specs.declared.walk.Stop.TheVariants.{Whole}
use Rattle.bitset_form.specs.Policies.{bitset_policy}
use Rattle.bitset_form.specs.Parts.{bitset_parts}
use Rattle.bitset_form.specs.declared.parts.BitsetParts.{BitsetParts}
use Rattle.bitset_form.specs.Bitset.{Reading}
use Rattle.bitset_form.specs.Bitset.Reading.{refused}
use Rattle.bitset_compact.specs.Compact.{compact_reading}
use Rattle.bitset_list.specs.BitList.{list_reading}
use Rattle.bitset.specs.Judge.{mixed_at, on_mixing, bitset_parts_reading, bitset_reading}
use Rattle.bitset.proofs.judge.Laws.{mixed_by, mixed-is}
use Rattle.bitset_moved.specs.Moved.{moved_reading}
use Rattle.bitset_moved.proofs.Walk.{there, stop-moved, on-stop}
use Rattle.bitset_moved.proofs.Parts.{ShiftBitset, place-moved, bitset-parts}
use Rattle.bitset_moved.proofs.Compact.{compact-moved}
use Rattle.bitset_moved.proofs.BitList.{list-moved}

abbrev moved_mixing : ℕ → Option ℕ → Option ℕ
moved_mixing by None = None
moved_mixing by (Some at) = Some (by + at)

on-mixing : (by : ℕ) (x : Option ℕ) (rest rest' : Reading) → rest' ≡ moved_reading by rest
    → on_mixing (moved_mixing by x) rest' ≡ moved_reading by (on_mixing x rest)
on-mixing by None rest rest' e = e
on-mixing by (Some at) rest rest' e = refl

-- 18, by which attributes stand
mixed-flags : (by : ℕ) (nomask bits value mask : Bool) (a e : ℕ) {a' e' : ℕ} → (value ≡ true → a' ≡ by + a) → (mask ≡ true → e' ≡ by + e)
    → mixed_by nomask bits value mask a' e' ≡ moved_mixing by (mixed_by nomask bits value mask a e)
unfolding mixed_by
mixed-flags by nomask true true mask a e f g = ap Some (f refl)
mixed-flags by nomask true false true a e f g = ap Some (g refl)
mixed-flags by true true false false a e f g = refl
mixed-flags by false true false false a e f g = refl
mixed-flags by true false value true a e f g = ap Some (g refl)
mixed-flags by false false value true a e f g = refl
mixed-flags by true false value false a e f g = refl
mixed-flags by false false value false a e f g = refl

mixed-moved : {by bytes : ℕ} {p q : BitsetParts} → ShiftBitset by bytes p q → mixed_at q ≡ moved_mixing by (mixed_at p)
mixed-moved {by} {bytes} {p} {q} shift =
    mixed-is q ∙ cc (there shift.nomask, there shift.bits, there shift.value, there shift.mask)
    ∙ mixed-flags by p.nomask.present p.bits.present p.value.present p.mask.present (p.value.start - 4) (p.mask.start - 4)
    (place-moved shift.value) (place-moved shift.mask)
    ∙ sym (ap (moved_mixing by) (mixed-is p))

module _ (pre c names : List ℕ) (nest nest' : ℕ) (at : nest' ≡ length pre + nest - 4) {p q : BitsetParts}
    (shift : ShiftBitset (length pre) (length c) p q) where
  either-moved : (bits : Bool) {bits' : Bool} → bits' ≡ bits → p.bits.present ≡ bits
      → cond bits' (list_reading (pre ++ c) names q) (compact_reading (pre ++ c) nest' (count names) q)
      ≡ moved_reading (length pre) (cond bits (list_reading c names p) (compact_reading c nest (count names) p))
  either-moved true e t = rw e (list-moved pre names c shift t)
  either-moved false e t = rw e (compact-moved pre c (count names) shift nest nest' at)

  parts-moved : bitset_parts_reading (pre ++ c) nest' names q ≡ moved_reading (length pre) (bitset_parts_reading c nest names p)
  unfolding bitset_parts_reading
  parts-moved =
      rw (mixed-moved shift)
      (on-mixing (length pre) (mixed_at p) (cond p.bits.present (list_reading c names p) (compact_reading c nest (count names) p))
      (cond q.bits.present (list_reading (pre ++ c) names q) (compact_reading (pre ++ c) nest' (count names) q))
      (either-moved p.bits.present (there shift.bits) refl))

module _ (pre c names : List ℕ) where
  from_zero : bitset_reading (pre ++ c) (length pre + 0) names ≡ moved_reading (length pre) (bitset_reading c 0 names)
  unfolding bitset_reading
  from_zero =
      let w = walked bitset_policy c 0 in
      let w' = walked bitset_policy (pre ++ c) (length pre + 0) in
      on-stop (length pre) (moved_reading (length pre)) refused (λ r. refl) w.stop w'.stop
      (bitset_parts_reading c (0 - 4) names (bitset_parts w.slots))
      (bitset_parts_reading (pre ++ c) (length pre + 0 - 4) names (bitset_parts w'.slots))
      (stop-moved pre c bitset_policy 0)
      (λ (whole : w.stop ≡ Whole). parts-moved pre c names (0 - 4) (length pre + 0 - 4) refl (bitset-parts pre c 0 whole))

  pub reading-moved : bitset_reading (pre ++ c) (length pre) names ≡ moved_reading (length pre) (bitset_reading c 0 names)
  reading-moved =
      let k : length pre ≡ length pre + 0 = omega arith in
      ap (λ (from : ℕ). bitset_reading (pre ++ c) from names) k ∙ from_zero
