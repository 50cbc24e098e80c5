-- Document 01, "What a call says back" and "Bitsets", and request C-12: the checks of a bitset in their order. "Then the bitset is walked whole and judged: 18
-- first, then 13, 19, 20 for a compact one. Then BITS is walked whole; then each BIT in order, walked whole and judged."
use Rattle.std.specs.Prelude.{ℕ, ◌-◌, ◌/◌, List, [], ◌∷◌, ◌++◌, Bool, ◌&&◌, not, cond, length, eqb, leb, ltb, Option, Some, None, is_none}
use Rattle.bits.specs.Set.{has, words_for, some_past}
use Rattle.word_bytes.specs.Bytes.{words_in}
use Rattle.entries.specs.Entry.{count}
use Rattle.names.specs.Search.{lookup}
use Rattle.netlink_attributes.specs.Attributes.{Attributes, attributes, part_of}
use Rattle.netlink_attributes.specs.Attributes.Attributes.{done, broken, attribute}
use Rattle.netlink.specs.Walk.{walked, slot_number}
use Rattle.netlink.specs.declared.walk.Slot.{Slot}
use Rattle.refusal.specs.declared.Refusal.TheVariants.{Mixed, MissingIn, ShortBitmap, PastLength, UnknownBit, NoBit, TwoBits}
use Rattle.bitset_form.specs.Policies.{bitset_policy, bits_policy, bit_policy}
use Rattle.bitset_form.specs.Parts.{bitset_parts, bit_parts}
use Rattle.bitset_form.specs.declared.parts.BitsetParts.{BitsetParts}
use Rattle.bitset_form.specs.declared.parts.BitParts.{BitParts}
use Rattle.demands.specs.Check.{Check, refuse_if, walks, walk_checks}

-- "18, in order: BITS with VALUE; BITS with MASK; NOMASK with MASK"
unfoldable pub mixed_checks : BitsetParts → List Check
mixed_checks parts =
    refuse_if (parts.bits.present && parts.value.present) (Mixed (parts.value.start - 4))
    ∷ refuse_if (parts.bits.present && parts.mask.present) (Mixed (parts.mask.start - 4))
    ∷ refuse_if (parts.nomask.present && parts.mask.present) (Mixed (parts.mask.start - 4))
    ∷ []

-- a bitmap holds fewer words than SIZE/32 rounded up
unfoldable pub too_short : List ℕ → ℕ → Slot → Bool
too_short s size slot = ltb (length (part_of s slot.start slot.end) / 4) (words_for size)

-- "a bit i with N <= i < SIZE stands" in a bitmap
unfoldable pub past_end : List ℕ → ℕ → ℕ → Slot → Bool
past_end s n size slot = some_past (has (words_in (part_of s slot.start slot.end))) n size

-- "SIZE, VALUE and, without NOMASK, MASK are required, missed in that order. VALUE, then MASK, hold at least SIZE/32 rounded up words. 20 if
-- a bit i with N <= i < SIZE stands in MASK (in VALUE under NOMASK)"
unfoldable pub compact_checks : List ℕ → ℕ → ℕ → BitsetParts → List Check
compact_checks s nest n parts =
    refuse_if (not parts.size.present) (MissingIn 2 nest)
    ∷ refuse_if (not parts.value.present) (MissingIn 4 nest)
    ∷ refuse_if (not parts.nomask.present && not parts.mask.present) (MissingIn 5 nest)
    ∷ refuse_if (too_short s (slot_number s parts.size) parts.value) (ShortBitmap (parts.value.start - 4))
    ∷ refuse_if (not parts.nomask.present && too_short s (slot_number s parts.size) parts.mask) (ShortBitmap (parts.mask.start - 4))
    ∷ refuse_if (not parts.nomask.present && past_end s n (slot_number s parts.size) parts.mask) (PastLength (parts.mask.start - 4))
    ∷ refuse_if (parts.nomask.present && past_end s n (slot_number s parts.size) parts.value) (PastLength (parts.value.start - 4))
    ∷ []

-- a NAME that no entry equals
unfoldable pub unknown_name : List ℕ → List ℕ → Slot → Bool
unknown_name s names name = is_none (lookup names (part_of s name.start name.end)).bit

-- the entry that is found is not the one with this number; where none is, which 21 refuses before, 0 stands in its place
abbrev pub is_other : ℕ → Option ℕ → Bool
is_other i (Some k) = not (eqb i k)
is_other i None = not (eqb i 0)

-- an INDEX and a NAME, which an entry equals, mean two bits: that entry is not the one with INDEX's number
unfoldable pub two_bits : List ℕ → List ℕ → Slot → Slot → Bool
two_bits s names index name = is_other (slot_number s index) (lookup names (part_of s name.start name.end)).bit

-- the parts of the BIT at a place: 20 by INDEX where it stands, then 21 by NAME where it stands, 22 where neither does, 23 where both do and mean two bits
unfoldable pub part_checks : List ℕ → List ℕ → ℕ → BitParts → List Check
part_checks s names at parts =
    refuse_if (parts.index.present && leb (count names) (slot_number s parts.index)) (PastLength (parts.index.start - 4))
    ∷ refuse_if (parts.name.present && unknown_name s names parts.name) (UnknownBit (parts.name.start - 4))
    ∷ refuse_if (not parts.index.present && not parts.name.present) (NoBit at)
    ∷ refuse_if (parts.index.present && (parts.name.present && two_bits s names parts.index parts.name)) (TwoBits at)
    ∷ []

-- a BIT: walked whole, then judged
unfoldable pub bit_checks : List ℕ → List ℕ → ℕ → List Check
bit_checks s names from =
    walk_checks (walked bit_policy s from) (λ slots. part_checks s names (from - 4) (bit_parts slots))

-- each BIT in order
unfoldable pub each_bit : List ℕ → List ℕ → Attributes → List Check
each_bit s names done = []
each_bit s names (broken at) = []
each_bit s names (attribute k b a e rest) = bit_checks (part_of s 0 e) names a ++ each_bit s names rest

-- a bit list: BITS walked whole, then each BIT
unfoldable pub list_checks : List ℕ → List ℕ → BitsetParts → List Check
list_checks s names parts =
    walks (walked bits_policy (part_of s 0 parts.bits.end) parts.bits.start).stop
    ∷ each_bit (part_of s 0 parts.bits.end) names (attributes (part_of s 0 parts.bits.end) parts.bits.start)

-- "With BITS present it is a bit list, else compact"
unfoldable pub form_checks : List ℕ → ℕ → List ℕ → BitsetParts → List Check
form_checks s nest names parts =
    mixed_checks parts ++ cond parts.bits.present (list_checks s names parts) (compact_checks s nest (count names) parts)

-- the bitset whose contents are the bytes of s from a position on
unfoldable pub bitset_checks : List ℕ → ℕ → List ℕ → List Check
bitset_checks s from names =
    walk_checks (walked bitset_policy s from) (λ slots. form_checks s (from - 4) names (bitset_parts slots))
