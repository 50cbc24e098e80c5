-- A bit list behind other bytes.
use Rattle.std.specs.Prelude.{Result, Ok, Err}
use Prim.Native.Nat.{ℕ, ◌+◌}
use mathlib.Core.Path.{◌≡◌, refl}
use mathlib.Core.List.{List, ◌++◌}
use mathlib.Core.Bool.{Bool, true, false}
use lib.ListN.{length}
use native.Mathlib.Omega.{arith}
use Rattle.netlink_attributes.specs.Attributes.{Attributes, attributes, part_of}
use Rattle.netlink_attributes.specs.Attributes.Attributes.{done, broken, attribute}
use Rattle.netlink_attributes.specs.Claims.{Apart}
use Rattle.netlink_attributes.proofs.Apart.{apart}
use Rattle.netlink.specs.Walk.{walked}
use Rattle.netlink.specs.declared.walk.Slot.{Slot}
use Rattle.netlink.specs.declared.walk.Stop.TheVariants.{Whole}
use Rattle.refusal.specs.Refusal.{on_stop}
use Rattle.bitset_form.specs.Policies.{bits_policy}
use Rattle.bitset_form.specs.declared.parts.BitsetParts.{BitsetParts}
use Rattle.bitset_form.specs.Bitset.{Reading}
use Rattle.bitset_form.specs.Bitset.Reading.{refused}
use Rattle.bitset_bit.specs.Bit.{bit_reading}
use Rattle.refusal.specs.declared.Refusal.{Refusal}
use Rattle.bitset_bit.specs.declared.Bit.{Bit}
use Rattle.bitset_list.specs.BitList.{ListReading, on_bit, bits_reading, as_bitset, list_reading}
use Rattle.bitset_list.specs.BitList.ListReading.{list_refused, list_entries}
use Rattle.bitset_moved.specs.Moved.{moved, moved_reading}
use Rattle.bitset_moved.proofs.Attributes.{moved_all, front-moved, attributes-moved}
use Rattle.bitset_moved.proofs.Walk.{Shift, there, stop-moved, on-stop}
use Rattle.bitset_moved.proofs.Walk.Shift.{none, some}
use Rattle.bitset_moved.proofs.Parts.{ShiftBitset}
use Rattle.bitset_moved.proofs.Bit.{moved_bit, bit_moved}

abbrev moved_list : ℕ → ListReading → ListReading
moved_list by (list_refused why) = list_refused (moved by why)
moved_list by (list_entries es) = list_entries es

-- one BIT and those after it; a list, under NOMASK or not
on-bit : (by : ℕ) (x : Result Bit Refusal) (y : ListReading) → on_bit (moved_bit by x) (moved_list by y) ≡ moved_list by (on_bit x y)
on-bit by (Err why) y = refl
on-bit by (Ok bit) (list_refused why) = refl
on-bit by (Ok bit) (list_entries es) = refl

as-bitset : (by : ℕ) (nomask : Bool) (x : ListReading) → as_bitset nomask (moved_list by x) ≡ moved_reading by (as_bitset nomask x)
as-bitset by true (list_refused why) = refl
as-bitset by false (list_refused why) = refl
as-bitset by true (list_entries es) = refl
as-bitset by false (list_entries es) = refl

module _ (pre names : List ℕ) where
  -- the BITs of a parent
  bits-moved : (s : List ℕ) (at : ℕ) (xs : Attributes) → Apart s at xs
      → bits_reading (pre ++ s) names (moved_all (length pre) xs) ≡ moved_list (length pre) (bits_reading s names xs)
  unfolding bits_reading
  bits-moved s at done q = refl
  bits-moved s at (broken b) q = refl
  bits-moved s at (attribute k b a e rest) q =
      let h = q.0 in
      rw (front-moved pre s e q.3, bit_moved pre (part_of s 0 e) names a (omega arith), bits-moved s q.5.0 rest q.5.3)
      (on-bit (length pre) (bit_reading (part_of s 0 e) names a) (bits_reading s names rest))

  -- a list by its BITS, under NOMASK or not
  abbrev list_by : Bool → List ℕ → ℕ → Reading
  list_by nomask p from = on_stop (walked bits_policy p from).stop refused (as_bitset nomask (bits_reading p names (attributes p from)))

  by_bits : (s : List ℕ) {nomask nomask' : Bool} {x y : Slot} → nomask' ≡ nomask → Shift (length pre) (length s) x y → x.present ≡ true
      → list_by nomask' (part_of (pre ++ s) 0 y.end) y.start ≡ moved_reading (length pre) (list_by nomask (part_of s 0 x.end) x.start)
  by_bits s o none t = absurd (let z : ◌≡◌ {A = ℕ} 0 1 = cc in omega arith)
  by_bits s {nomask} o (some a e l u h) t =
      let p = part_of s 0 e in
      rw (o, front-moved pre s e h)
      (on-stop (length pre) (moved_reading (length pre)) refused (λ r. refl) (walked bits_policy p a).stop (walked bits_policy (pre ++ p) (length pre + a)).stop
      (as_bitset nomask (bits_reading p names (attributes p a)))
      (as_bitset nomask (bits_reading (pre ++ p) names (attributes (pre ++ p) (length pre + a))))
      (stop-moved pre p bits_policy a)
      (λ (w : (walked bits_policy p a).stop ≡ Whole).
      rw (attributes-moved pre p a, bits-moved p a (attributes p a) (apart p a))
      (as-bitset (length pre) nomask (bits_reading p names (attributes p a)))))

  pub list-moved : (s : List ℕ) {p q : BitsetParts} → ShiftBitset (length pre) (length s) p q → p.bits.present ≡ true
      → list_reading (pre ++ s) names q ≡ moved_reading (length pre) (list_reading s names p)
  unfolding list_reading
  list-moved s shift t = by_bits s (there shift.nomask) shift.bits t
