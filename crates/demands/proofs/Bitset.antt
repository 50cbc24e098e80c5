-- What a bitset's definition tells is its first check that does not pass.
use Rattle.std.specs.Prelude.{Option, Some, None, Ok, Err, is_none}
use Rattle.basics.specs.Results.{and_then}
use Rattle.bitset_bit.specs.declared.Bit.{Bit}
use Prim.Native.Nat.{ℕ, ◌-◌}
use mathlib.Core.Path.{◌≡◌, refl, sym, ap, ◌∙◌}
use mathlib.Core.List.{List, [], ◌∷◌, ◌++◌}
use mathlib.Core.Bool.{Bool, true, false, ◌&&◌, not, cond}
use lib.Dec.{eqb, leb}
use Rattle.entries.specs.Entry.{count}
use Rattle.names.specs.Search.{lookup}
use Rattle.netlink_attributes.specs.Attributes.{Attributes, attributes, part_of}
use Rattle.netlink_attributes.specs.Attributes.Attributes.{done, broken, attribute}
use Rattle.netlink.specs.Walk.{walked, slot_number}
use Rattle.refusal.specs.declared.Refusal.{Refusal}
use Rattle.refusal.specs.declared.Refusal.TheVariants.{MissingIn, ShortBitmap, PastLength, UnknownBit, NoBit, TwoBits}
use Rattle.bitset_form.specs.Policies.{bitset_policy, bits_policy, bit_policy}
use Rattle.bitset_form.specs.Parts.{bitset_parts, bit_parts}
use Rattle.bitset_form.specs.declared.parts.BitsetParts.{BitsetParts}
use Rattle.bitset_form.specs.declared.parts.BitParts.{BitParts}
use Rattle.bitset_form.specs.Bitset.{Reading}
use Rattle.bitset_form.specs.Bitset.Reading.{refused, accepted}
use Rattle.bitset_compact.specs.Compact.{nomask_reading, masked_reading, compact_reading}
use Rattle.bitset_bit.specs.Bit.{Identity, on_lookup, bit_by_index, bit_by_name, combined, identified, on_identity, bit_parts_reading, bit_reading}
use Rattle.bitset_bit.proofs.Laws.{by-walk}
use Rattle.refusal.specs.Refusal.{on_stop}
use Rattle.bitset_list.specs.BitList.{ListReading, on_bit, bits_reading, as_bitset, list_reading}
use Rattle.bitset_list.specs.BitList.ListReading.{list_refused, list_entries}
use Rattle.bitset.specs.Judge as J
use Rattle.response.specs.declared.Kind.{Kind}
use Rattle.response.specs.declared.Kind.TheVariants.{Done, Refused}
use Rattle.demands.specs.Check.{Check, refuse_if, first_kind}
use Rattle.demands.specs.Bitset.{mixed_checks, too_short, past_end, compact_checks, unknown_name, is_other, two_bits, part_checks, bit_checks, each_bit, list_checks, form_checks, bitset_checks}
use Rattle.demands.proofs.First.{step, walk_step, pass, fault, no_more, first-append}

-- the kind that a reading comes to
abbrev pub kind_of : Reading → Kind
kind_of (refused why) = Refused why
kind_of (accepted b) = Done

-- a test that refuses
check : (t : Bool) (why : Refusal) (x : Reading) (checks : List Check) → kind_of x ≡ first_kind Done checks
    → kind_of (cond t (refused why) x) ≡ first_kind Done (refuse_if t why ∷ checks)
check t why x checks e = step kind_of Done t why (refused why) x checks refl e

-- a compact bitset, under NOMASK or not
module _ (s : List ℕ) (nest n : ℕ) (parts : BitsetParts) where
  abbrev size : ℕ
  size = slot_number s parts.size

  form-first : (t : Bool)
      → kind_of (cond t (nomask_reading s n size parts) (masked_reading s nest n size parts))
      ≡ first_kind Done
      (refuse_if (not t && not parts.mask.present) (MissingIn 5 nest)
      ∷ refuse_if (too_short s size parts.value) (ShortBitmap (parts.value.start - 4))
      ∷ refuse_if (not t && too_short s size parts.mask) (ShortBitmap (parts.mask.start - 4))
      ∷ refuse_if (not t && past_end s n size parts.mask) (PastLength (parts.mask.start - 4))
      ∷ refuse_if (t && past_end s n size parts.value) (PastLength (parts.value.start - 4))
      ∷ [])
  unfolding nomask_reading masked_reading too_short past_end
  form-first true = pass _ _ _ _ (check _ _ _ _ (pass _ _ _ _ (pass _ _ _ _ (check _ _ _ _ (no_more Done)))))
  form-first false = check _ _ _ _ (check _ _ _ _ (check _ _ _ _ (check _ _ _ _ (pass _ _ _ _ (no_more Done)))))

  compact-first : kind_of (compact_reading s nest n parts) ≡ first_kind Done (compact_checks s nest n parts)
  unfolding compact_reading compact_checks
  compact-first = check _ _ _ _ (check _ _ _ _ (form-first parts.nomask.present))

-- 18, then the form
mixed-first : (parts : BitsetParts) (rest : Reading) (checks : List Check) → kind_of rest ≡ first_kind Done checks
    → kind_of (J.on_mixing (J.mixed_at parts) rest) ≡ first_kind Done (mixed_checks parts ++ checks)
unfolding J.mixed_at mixed_checks
mixed-first parts rest checks e =
    step kind Done _ _ _ _ _ refl (step kind Done _ _ _ _ _ refl (step kind Done _ _ _ _ _ refl e))
  where
    kind : Option ℕ → Kind
    kind m = kind_of (J.on_mixing m rest)

-- the kind that the BITs of a list come to
abbrev list_kind : ListReading → Kind
list_kind (list_refused why) = Refused why
list_kind (list_entries es) = Done

bit-passes : (bit : Bit) (rest : ListReading) → list_kind (on_bit (Ok bit) rest) ≡ list_kind rest
bit-passes bit (list_refused why) = refl
bit-passes bit (list_entries es) = refl

-- one BIT, before the others
module _ (s names : List ℕ) (rest : ListReading) where
  abbrev last : Kind
  last = list_kind rest

  module _ (at : ℕ) (on : Bool) where
    abbrev identity_kind : Identity → Kind
    identity_kind l = list_kind (on_bit (and_then l (on_identity at on)) rest)

    bit : ℕ → Bit
    bit number = record { number = number; on = on }

    -- INDEX, NAME or both, by whether they stand; 20, 21 and 23 by what is told of them
    combined-first : (t u : Bool) (index past unknown : ℕ) (over : Bool) (found : Option ℕ)
        → identity_kind
        (combined at (cond t (cond over (Err (PastLength past)) (Ok (Some index))) (Ok None)) (cond u (on_lookup found unknown) (Ok None)))
        ≡ first_kind last
        (refuse_if (t && over) (PastLength past)
        ∷ refuse_if (u && is_none found) (UnknownBit unknown)
        ∷ refuse_if (not t && not u) (NoBit at)
        ∷ refuse_if (t && (u && is_other index found)) (TwoBits at)
        ∷ [])
    unfolding bit
    combined-first true u index past unknown true found = fault last _ _
    combined-first true true index past unknown false None = pass last _ _ _ (fault last _ _)
    combined-first true true index past unknown false (Some name) =
        pass last _ _ _ (pass last _ _ _ (pass last _ _ _ (same (eqb index name))))
      where
        same : (b : Bool) → identity_kind (cond b (Ok (Some index)) (Err (TwoBits at))) ≡ first_kind last (refuse_if (not b) (TwoBits at) ∷ [])
        same true = pass last _ _ _ (bit-passes (bit index) rest ∙ no_more last)
        same false = fault last _ _
    combined-first true false index past unknown false found =
        pass last _ _ _ (pass last _ _ _ (pass last _ _ _ (pass last _ _ _ (bit-passes (bit index) rest ∙ no_more last))))
    combined-first false true index past unknown over None = pass last _ _ _ (fault last _ _)
    combined-first false true index past unknown over (Some name) =
        pass last _ _ _ (pass last _ _ _ (pass last _ _ _ (pass last _ _ _ (bit-passes (bit name) rest ∙ no_more last))))
    combined-first false false index past unknown over found = pass last _ _ _ (pass last _ _ _ (fault last _ _))

    parts_first : (parts : BitParts) → identity_kind (identified s names at parts) ≡ first_kind last (part_checks s names at parts)
    unfolding identified bit_by_index bit_by_name part_checks unknown_name two_bits
    parts_first parts =
        combined-first parts.index.present parts.name.present (slot_number s parts.index) (parts.index.start - 4) (parts.name.start - 4)
        (leb (count names) (slot_number s parts.index)) (lookup names (part_of s parts.name.start parts.name.end)).bit

  bit-first : (from : ℕ) → list_kind (on_bit (bit_reading s names from) rest) ≡ first_kind last (bit_checks s names from)
  unfolding bit_parts_reading bit_checks
  bit-first from =
      let parts = bit_parts (walked bit_policy s from).slots in
      ap (λ r. list_kind (on_bit r rest)) (by-walk s names from)
      ∙ walk_step (λ r. list_kind (on_bit r rest)) last (walked bit_policy s from).stop
      (λ stop. on_stop stop Err (bit_parts_reading s names (from - 4) parts)) _ (λ fault at. refl)
      (parts_first (from - 4) parts.on.present parts)

each_first : (s names : List ℕ) (xs : Attributes) → list_kind (bits_reading s names xs) ≡ first_kind Done (each_bit s names xs)
unfolding bits_reading each_bit
each_first s names done = no_more Done
each_first s names (broken at) = no_more Done
each_first s names (attribute k b a e rest) =
    bit-first (part_of s 0 e) names (bits_reading s names rest) a
    ∙ ap (λ (last : Kind). first_kind last (bit_checks (part_of s 0 e) names a)) (each_first s names rest)
    ∙ sym (first-append Done (bit_checks (part_of s 0 e) names a) (each_bit s names rest))

-- a bit list
as-kind : (nomask : Bool) (x : ListReading) → kind_of (as_bitset nomask x) ≡ list_kind x
as-kind true (list_refused why) = refl
as-kind false (list_refused why) = refl
as-kind true (list_entries es) = refl
as-kind false (list_entries es) = refl

list-first : (s names : List ℕ) (parts : BitsetParts) → kind_of (list_reading s names parts) ≡ first_kind Done (list_checks s names parts)
unfolding list_reading list_checks
list-first s names parts =
    let p = part_of s 0 parts.bits.end in
    let xs = attributes p parts.bits.start in
    walk_step kind_of Done (walked bits_policy p parts.bits.start).stop
    (λ stop. on_stop stop refused (as_bitset parts.nomask.present (bits_reading p names xs))) _
    (λ fault at. refl) (as-kind parts.nomask.present (bits_reading p names xs) ∙ each_first p names xs)

-- a bitset
either_first : (s : List ℕ) (nest : ℕ) (names : List ℕ) (parts : BitsetParts) (t : Bool)
    → kind_of (cond t (list_reading s names parts) (compact_reading s nest (count names) parts))
    ≡ first_kind Done (cond t (list_checks s names parts) (compact_checks s nest (count names) parts))
either_first s nest names parts true = list-first s names parts
either_first s nest names parts false = compact-first s nest (count names) parts

pub bitset-first : (s : List ℕ) (from : ℕ) (names : List ℕ) → kind_of (J.bitset_reading s from names) ≡ first_kind Done (bitset_checks s from names)
unfolding J.bitset_reading J.bitset_parts_reading bitset_checks form_checks
bitset-first s from names =
    let parts = bitset_parts (walked bitset_policy s from).slots in
    walk_step kind_of Done (walked bitset_policy s from).stop (λ stop. on_stop stop refused (J.bitset_parts_reading s (from - 4) names parts)) _
    (λ fault at. refl)
    (mixed-first parts _ _ (either_first s (from - 4) names parts parts.bits.present))
