-- One BIT behind other bytes.
use Rattle.std.specs.Prelude.{Option, Some, None, Result, Ok, Err}
use Prim.Native.Nat.{ℕ, ◌+◌, ◌-◌, ◌≤◌}
use mathlib.Core.Path.{◌≡◌, refl, sym, ap, ◌∙◌}
use mathlib.Core.List.{List, ◌++◌}
use mathlib.Core.Bool.{Bool, true, false, cond}
use lib.ListN.{length}
use lib.Dec.{leb, eqb}
use Rattle.entries.specs.Entry.{count}
use Rattle.names.specs.Search.{lookup}
use Rattle.netlink_attributes.specs.Attributes.{part_of}
use Rattle.netlink.specs.Walk.{found, walked, slot_number}
use Rattle.netlink.specs.declared.walk.Slot.{Slot}
use Rattle.netlink.specs.declared.walk.Stop.TheVariants.{Whole}
use Rattle.refusal.specs.declared.Refusal.{Refusal}
use Rattle.refusal.specs.declared.Refusal.TheVariants.{PastLength, TwoBits}
use Rattle.bitset_form.specs.Policies.{bit_policy}
use Rattle.bitset_form.specs.Parts.{bit_parts}
use Rattle.bitset_form.specs.declared.parts.BitParts.{BitParts}
use Rattle.bitset_bit.specs.Bit.{Identity, on_lookup, bit_by_index, bit_by_name, combined, identified, on_identity, bit_parts_reading, bit_reading}
use Rattle.bitset_bit.proofs.Laws.{by-walk}
use Rattle.basics.specs.Results.{and_then}
use Rattle.bitset_bit.specs.declared.Bit.{Bit}
use Rattle.bitset_moved.specs.Moved.{moved}
use Rattle.bitset_moved.proofs.Attributes.{part_moved}
use Rattle.bitset_moved.proofs.Walk.{Shift, there, place, number-moved, stop-moved, on-stop}
use Rattle.bitset_moved.proofs.Walk.Shift.{none, some}
use Rattle.bitset_moved.proofs.Parts.{ShiftBit, bit-parts}

abbrev moved_identity : ℕ → Identity → Identity
moved_identity by (Ok identity) = Ok identity
moved_identity by (Err why) = Err (moved by why)

abbrev pub moved_bit : ℕ → Result Bit Refusal → Result Bit Refusal
moved_bit by (Ok bit) = Ok bit
moved_bit by (Err why) = Err (moved by why)

-- a test that refuses, and one that finds
past : (by : ℕ) (t : Bool) (why : Refusal) (x : Option ℕ)
    → cond t (Err (moved by why)) (Ok x) ≡ moved_identity by (cond t (Err why) (Ok x))
past by true why x = refl
past by false why x = refl

known : (by : ℕ) (t : Bool) (why : Refusal) (x : Option ℕ)
    → cond t (Ok x) (Err (moved by why)) ≡ moved_identity by (cond t (Ok x) (Err why))
known by true why x = refl
known by false why x = refl

looked-moved : (by : ℕ) (o : Option ℕ) (at : ℕ) → on_lookup o (by + at) ≡ moved_identity by (on_lookup o at)
looked-moved by (Some bit) at = refl
looked-moved by None at = refl

identity-moved : (by : ℕ) (l : Identity) (at : ℕ) (on : Bool)
    → and_then (moved_identity by l) (on_identity (by + at) on) ≡ moved_bit by (and_then l (on_identity at on))
identity-moved by (Ok (Some number)) at on = refl
identity-moved by (Ok None) at on = refl
identity-moved by (Err why) at on = refl

combined-moved : (by at : ℕ) (x y : Identity)
    → combined (by + at) (moved_identity by x) (moved_identity by y) ≡ moved_identity by (combined at x y)
combined-moved by at (Err why) y = refl
combined-moved by at (Ok index) (Err why) = refl
combined-moved by at (Ok (Some i)) (Ok (Some k)) = known by (eqb i k) (TwoBits at) (Some i)
combined-moved by at (Ok (Some i)) (Ok None) = refl
combined-moved by at (Ok None) (Ok name) = refl

module _ (pre s names : List ℕ) where
  index-moved : {x y : Slot} → Shift (length pre) (length s) x y
      → bit_by_index (pre ++ s) (count names) y ≡ moved_identity (length pre) (bit_by_index s (count names) x)
  unfolding bit_by_index
  index-moved none = refl
  index-moved (some a e l u h) =
      rw (number-moved pre s (some a e l u h), place (length pre) a l)
      (past (length pre) (leb (count names) (slot_number s (found a e))) (PastLength (a - 4)) (Some (slot_number s (found a e))))

  name-moved : {x y : Slot} → Shift (length pre) (length s) x y → bit_by_name (pre ++ s) names y ≡ moved_identity (length pre) (bit_by_name s names x)
  unfolding bit_by_name
  name-moved none = refl
  name-moved (some a e l u h) =
      rw (part_moved pre s a e, place (length pre) a l) (looked-moved (length pre) (lookup names (part_of s a e)).bit (a - 4))

  identified-moved : (at : ℕ) {p q : BitParts} → ShiftBit (length pre) (length s) p q
      → identified (pre ++ s) names (length pre + at) q ≡ moved_identity (length pre) (identified s names at p)
  unfolding identified
  identified-moved at {p} {q} shift =
      rw (index-moved shift.index, name-moved shift.name)
      (combined-moved (length pre) at (bit_by_index s (count names) p.index) (bit_by_name s names p.name))

  parts-moved : (at : ℕ) {p q : BitParts} → ShiftBit (length pre) (length s) p q
      → bit_parts_reading (pre ++ s) names (length pre + at) q ≡ moved_bit (length pre) (bit_parts_reading s names at p)
  unfolding bit_parts_reading
  parts-moved at {p} {q} shift =
      ap (λ (x : Identity). and_then x (on_identity (length pre + at) q.on.present)) (identified-moved at shift)
      ∙ ap (λ (on : Bool). and_then (moved_identity (length pre) (identified s names at p)) (on_identity (length pre + at) on)) (there shift.on)
      ∙ identity-moved (length pre) (identified s names at p) at p.on.present

  pub bit_moved : (from : ℕ) → 4 ≤ from → bit_reading (pre ++ s) names (length pre + from) ≡ moved_bit (length pre) (bit_reading s names from)
  bit_moved from l =
      let w = walked bit_policy s from in
      let w' = walked bit_policy (pre ++ s) (length pre + from) in
      by-walk (pre ++ s) names (length pre + from)
      ∙ on-stop (length pre) (moved_bit (length pre)) Err (λ r. refl) w.stop w'.stop
      (bit_parts_reading s names (from - 4) (bit_parts w.slots))
      (bit_parts_reading (pre ++ s) names (length pre + from - 4) (bit_parts w'.slots))
      (stop-moved pre s bit_policy from)
      (λ (whole : w.stop ≡ Whole). rw (place (length pre) from l) (parts-moved (from - 4) (bit-parts pre s from whole)))
      ∙ sym (ap (moved_bit (length pre)) (by-walk s names from))
