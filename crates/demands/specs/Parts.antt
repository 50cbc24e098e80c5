-- Demand 2, "Each attribute is shown as its own part of the datagram, inside its parent, apart from its siblings": where every part stands that the
-- answer to an admitted request rests on. `PartsIn` (`netlink` Claims) says of the parts of a parent that each stands inside it, header and payload,
-- and that no two overlap; `Apart` (`netlink_attributes` Claims) says of all attributes of a parent that they stand in it one after the other.
use Rattle.std.specs.Prelude.{ℕ, ◌+◌, ◌-◌, ◌≤◌, ◌<◌, ◌≡◌, List, [], ◌∷◌, Bool, true, false, length, take, drop, leb, Ok, Err}
use Rattle.basics.specs.Numbers.{u32_at}
use Rattle.netlink_attributes.specs.Attributes.{attributes, part_of}
use Rattle.netlink_attributes.specs.Claims.{Apart}
use Rattle.netlink.specs.Claims.{PartsIn}
use Rattle.netlink.specs.declared.policy.Fault.{Fault}
use Rattle.netlink.specs.declared.walk.Slot.{Slot}
use Rattle.refusal.specs.Refusal.{number_of, of_fault}
use Rattle.bitset_form.specs.Bitset.Reading.{refused}
use Rattle.bitset_form.specs.declared.parts.BitsetParts.{BitsetParts}
use Rattle.bitset_form.specs.declared.parts.BitParts.{BitParts}
use Rattle.bitset_bit.specs.Bit.{bit_parts_reading}
use Rattle.bitset_list.specs.BitList.{ListReading, on_bit, as_bitset, list_reading}
use Rattle.bitset_list.specs.BitList.ListReading.{list_refused, list_entries}
use Rattle.bitset.specs.Judge.{bitset_parts_reading, bitset_reading}
use Rattle.layout.specs.Layout.{list_of}
use Rattle.boxes.specs.Box.{Box}
use Rattle.admission.specs.declared.commands.Command.{Command}
use Rattle.request.specs.Top.{top_of}
use Rattle.request.specs.Header.{judged_parts, header_of}
use Rattle.request.specs.declared.parts.TopParts.{TopParts}
use Rattle.request.specs.declared.parts.HeaderParts.{HeaderParts}
use Rattle.response.specs.declared.Kind.{Kind}
use Rattle.response.specs.declared.Kind.TheVariants.{End, Skipped, Done, Refused}
use Rattle.netlink_headers.specs.Headers.{message_header}
use Rattle.demands.specs.Request.{asks_dump}
use Rattle.demands.specs.Call.{message_of}

-- an attribute stands right behind a place, with less than four bytes of padding before it, and ends no later than another place: its header of
-- four bytes, then its payload from start to end
abbrev pub StandsIn : ℕ → ℕ → ℕ → ℕ → Type 0
StandsIn from last start end = (from + 4 ≤ start) × (start < from + 8) × (start ≤ end) × (end ≤ last)

-- what is read of the BITs behind a place of s, which ends where BITS ends: none, where only padding is left; or a BIT with a fault in it; or a BIT
-- by its parts, and those behind it
pub data BitsRead (s names : List ℕ) : ℕ → ListReading → Type 0 where
  no_bit : {at : ℕ} → length s < at + 4 → BitsRead s names at (list_entries [])
  bit_fault : {at : ℕ} (start end : ℕ) → StandsIn at (length s) start end → (fault : Fault) (place : ℕ) → start ≤ place → place < end
      → BitsRead s names at (list_refused (of_fault fault place))
  bit_read : {at : ℕ} {rest : ListReading} (start end : ℕ) → StandsIn at (length s) start end
      → (parts : BitParts) → PartsIn start end (parts.index ∷ parts.name ∷ parts.on ∷ []) → BitsRead s names end rest
      → BitsRead s names at (on_bit (bit_parts_reading (part_of s 0 end) names (start - 4) parts) rest)

-- what is read of a bit list: a fault in BITS, or what its BITs say
pub data ListRead (s names : List ℕ) (parts : BitsetParts) : Type 0 where
  bits_fault : (fault : Fault) (place : ℕ) → parts.bits.start ≤ place → place < parts.bits.end
      → list_reading s names parts ≡ refused (of_fault fault place) → ListRead s names parts
  bits_read : (list : ListReading) → BitsRead (part_of s 0 parts.bits.end) names parts.bits.start list
      → list_reading s names parts ≡ as_bitset parts.nomask.present list → ListRead s names parts

-- what is read of the bitset whose contents are the bytes of s from a position on: a fault in it, or what its parts come to
pub data BitsetRead (s : List ℕ) (from : ℕ) (names : List ℕ) : Type 0 where
  bitset_fault : (fault : Fault) (place : ℕ) → from ≤ place → place < length s → bitset_reading s from names ≡ refused (of_fault fault place)
      → BitsetRead s from names
  bitset_read : (parts : BitsetParts)
      → PartsIn from (length s) (parts.nomask ∷ parts.size ∷ parts.bits ∷ parts.value ∷ parts.mask ∷ [])
      → bitset_reading s from names ≡ bitset_parts_reading s (from - 4) names parts
      → (parts.bits.present ≡ true → ListRead s names parts)
      → BitsetRead s from names

-- what is read of the header nest of a message m: a fault in it, or what its parts come to
pub data HeaderRead (m : List ℕ) (header : Slot) (dump : Bool) : Type 0 where
  header_fault : (fault : Fault) (place : ℕ) → header.start ≤ place → place < header.end → header_of m header dump ≡ Err (of_fault fault place)
      → HeaderRead m header dump
  header_read : (parts : HeaderParts) → PartsIn header.start header.end (parts.index ∷ parts.name ∷ parts.flags ∷ [])
      → header_of m header dump ≡ judged_parts m (header.start - 4) dump parts
      → HeaderRead m header dump

-- the nests of a request m: the header and the bitset in the message, what is read of the header in the header, what is read of the bitset in the bitset
pub record NestParts (box : Box) (m : List ℕ) (dump : Bool) (command : Command) (top : TopParts) : Type 0 where
  pub nests : PartsIn 20 (length m) (top.header ∷ top.bitset ∷ [])
  pub header : HeaderRead m top.header dump
  pub bitset : command.change ≡ true → BitsetRead (part_of m 0 top.bitset.end) top.bitset.start (list_of box.names command.set)
  pub bitset-end : command.change ≡ true → length (part_of m 0 top.bitset.end) ≡ top.bitset.end

-- a call that came past 9: it is done, or refused by 10 or more
abbrev pub past_nine : Kind → Bool
past_nine End = false
past_nine Skipped = false
past_nine Done = true
past_nine (Refused why) = leb 10 (number_of why)

-- an admitted request: the message is the bytes of the datagram from the position to position + length; its attributes stand behind byte 20, one
-- after the other; and its nests are as said
pub record RequestParts (box : Box) (datagram : List ℕ) (position : ℕ) (command : Command) : Type 0 where
  pub message : message_of datagram position ≡ take (u32_at datagram position) (drop position datagram)
  pub inside : position + u32_at datagram position ≤ length datagram
  pub size : length (message_of datagram position) ≡ u32_at datagram position
  pub headers : 20 ≤ u32_at datagram position
  pub in_order : Apart (message_of datagram position) 20 (attributes (message_of datagram position) 20)
  pub nested : (top : TopParts) → top_of (message_of datagram position) command.change ≡ Ok top → NestParts box (message_of datagram position) (asks_dump (message_header datagram position)) command top
