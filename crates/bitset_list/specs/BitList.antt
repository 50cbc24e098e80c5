-- Document 01, "Bitsets": a bit list. BITS is walked whole; then each BIT in order is walked whole and judged.
use Rattle.std.specs.Prelude.{ℕ, Bool, true, false, List, [], ◌∷◌, Result, Ok, Err}
use Rattle.bits.specs.Change.{Listed}
use Rattle.netlink_attributes.specs.Attributes.{Attributes, attributes, part_of}
use Rattle.netlink_attributes.specs.Attributes.Attributes.{done, broken, attribute}
use Rattle.netlink.specs.Walk.{walked}
use Rattle.refusal.specs.Refusal.{on_stop}
use Rattle.refusal.specs.declared.Refusal.{Refusal}
use Rattle.bitset_form.specs.Policies.{bits_policy}
use Rattle.bitset_form.specs.declared.parts.BitsetParts.{BitsetParts}
use Rattle.bitset_form.specs.Bitset.{Reading}
use Rattle.bitset_form.specs.Bitset.Bitset.{masked_list, nomask_list}
use Rattle.bitset_form.specs.Bitset.Reading.{refused, accepted}
use Rattle.bitset_bit.specs.Bit.{bit_reading}
use Rattle.bitset_bit.specs.declared.Bit.{Bit}

-- what the BITs say, in order
pub data ListReading : Type 0 where
  list_refused : Refusal → ListReading
  list_entries : List Listed → ListReading

-- one BIT and those after it
abbrev pub on_bit : Result Bit Refusal → ListReading → ListReading
on_bit (Err r) rest = list_refused r
on_bit (Ok b) (list_entries es) = list_entries (record { bit = b.number; on = b.on } ∷ es)
on_bit (Ok b) (list_refused r) = list_refused r

-- each BIT in turn; BITS is walked whole before, so none is broken
unfoldable pub bits_reading : List ℕ → List ℕ → Attributes → ListReading
bits_reading s names done = list_entries []
bits_reading s names (broken at) = list_entries []
bits_reading s names (attribute k b a e rest) = on_bit (bit_reading (part_of s 0 e) names a) (bits_reading s names rest)

-- a bit list, under NOMASK or not
abbrev pub as_bitset : Bool → ListReading → Reading
as_bitset nomask (list_refused r) = refused r
as_bitset true (list_entries es) = accepted (nomask_list es)
as_bitset false (list_entries es) = accepted (masked_list es)

-- the parts of a bitset with BITS
unfoldable pub list_reading : List ℕ → List ℕ → BitsetParts → Reading
list_reading s names parts =
    on_stop (walked bits_policy (part_of s 0 parts.bits.end) parts.bits.start).stop refused
    (as_bitset parts.nomask.present
    (bits_reading (part_of s 0 parts.bits.end) names (attributes (part_of s 0 parts.bits.end) parts.bits.start)))
