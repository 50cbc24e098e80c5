-- Document 01, "Bitsets": a compact bitset. 13 for SIZE, VALUE, MASK in that order; 19 for VALUE, then MASK; then 20.
use Rattle.std.specs.Prelude.{ℕ, ◌-◌, ◌/◌, not, cond, List, length, ltb}
use Rattle.bits.specs.Set.{has, words_for, some_past}
use Rattle.word_bytes.specs.Bytes.{words_in}
use Rattle.netlink_attributes.specs.Attributes.{part_of}
use Rattle.netlink.specs.Walk.{slot_number}
use Rattle.netlink.specs.declared.walk.Slot.{Slot}
use Rattle.refusal.specs.declared.Refusal.TheVariants.{MissingIn, ShortBitmap, PastLength}
use Rattle.bitset_form.specs.declared.parts.BitsetParts.{BitsetParts}
use Rattle.bitset_form.specs.Bitset.{Reading}
use Rattle.bitset_form.specs.Bitset.Bitset.{masked_bitmap, nomask_bitmap}
use Rattle.bitset_form.specs.Bitset.Reading.{refused, accepted}

-- the bytes of a bitmap attribute
abbrev pub bitmap : List ℕ → Slot → List ℕ
bitmap s slot = part_of s slot.start slot.end

-- under NOMASK: VALUE holds SIZE/32 rounded up words, and no bit i with N <= i < SIZE
unfoldable pub nomask_reading : List ℕ → ℕ → ℕ → BitsetParts → Reading
nomask_reading s n size parts =
    cond (ltb (length (bitmap s parts.value) / 4) (words_for size)) (refused (ShortBitmap (parts.value.start - 4)))
    (cond (some_past (has (words_in (bitmap s parts.value))) n size) (refused (PastLength (parts.value.start - 4)))
    (accepted (nomask_bitmap size (has (words_in (bitmap s parts.value))))))

-- without it: MASK is required; VALUE, then MASK, hold the words; MASK has no bit i with N <= i < SIZE
unfoldable pub masked_reading : List ℕ → ℕ → ℕ → ℕ → BitsetParts → Reading
masked_reading s nest n size parts =
    cond (not parts.mask.present) (refused (MissingIn 5 nest))
    (cond (ltb (length (bitmap s parts.value) / 4) (words_for size)) (refused (ShortBitmap (parts.value.start - 4)))
    (cond (ltb (length (bitmap s parts.mask) / 4) (words_for size)) (refused (ShortBitmap (parts.mask.start - 4)))
    (cond (some_past (has (words_in (bitmap s parts.mask))) n size) (refused (PastLength (parts.mask.start - 4)))
    (accepted (masked_bitmap size (has (words_in (bitmap s parts.value))) (has (words_in (bitmap s parts.mask))))))))

-- SIZE and VALUE are required
unfoldable pub compact_reading : List ℕ → ℕ → ℕ → BitsetParts → Reading
compact_reading s nest n parts =
    cond (not parts.size.present) (refused (MissingIn 2 nest))
    (cond (not parts.value.present) (refused (MissingIn 4 nest))
    (cond parts.nomask.present
    (nomask_reading s n (slot_number s parts.size) parts)
    (masked_reading s nest n (slot_number s parts.size) parts)))
