-- Document 01, "Bitsets", and request C-12: one BIT of a bit list, walked whole and judged.
use Rattle.std.specs.Prelude.{ℕ, ◌-◌, Bool, cond, List, leb, eqb, Option, Some, None, Result, Ok, Err}
use Rattle.entries.specs.Entry.{count}
use Rattle.names.specs.Search.{lookup}
use Rattle.netlink_attributes.specs.Attributes.{part_of}
use Rattle.netlink.specs.Walk.{walked, slot_number}
use Rattle.netlink.specs.declared.walk.Slot.{Slot}
use Rattle.refusal.specs.Refusal.{on_walk}
use Rattle.refusal.specs.declared.Refusal.TheVariants.{PastLength, UnknownBit, NoBit, TwoBits}
use Rattle.bitset_form.specs.Policies.{bit_policy}
use Rattle.bitset_form.specs.Parts.{bit_parts}
use Rattle.bitset_form.specs.declared.parts.BitParts.{BitParts}
use Rattle.basics.specs.Results.{and_then}
use Rattle.refusal.specs.declared.Refusal.{Refusal}
use Rattle.bitset_bit.specs.declared.Bit.{Bit}

-- what an INDEX or a NAME identifies: the bit where it stands, nothing where it is absent, or a refusal
abbrev pub Identity : Type 0
Identity = Result (Option ℕ) Refusal

-- what it identifies where it stands; nothing where it is absent
abbrev pub if_stands : Slot → Identity → Identity
if_stands slot read = cond slot.present read (Ok None)

-- the bit that INDEX means where it stands: its number, or 20 at or past N
unfoldable pub bit_by_index : List ℕ → ℕ → Slot → Identity
bit_by_index s n index =
    if_stands index (cond (leb n (slot_number s index)) (Err (PastLength (index.start - 4))) (Ok (Some (slot_number s index))))

-- what a search came to: the entry that equals NAME, or 21
abbrev pub on_lookup : Option ℕ → ℕ → Identity
on_lookup (Some bit) at = Ok (Some bit)
on_lookup None at = Err (UnknownBit at)

-- the bit that NAME means where it stands, by the list of names
unfoldable pub bit_by_name : List ℕ → List ℕ → Slot → Identity
bit_by_name s names name = if_stands name (on_lookup (lookup names (part_of s name.start name.end)).bit (name.start - 4))

-- INDEX is judged first, then NAME. "Where a BIT carries both, both must mean the same bit", else 23 at the BIT; where it carries one, that one decides; where
-- it carries neither, no bit is meant
abbrev pub combined : ℕ → Identity → Identity → Identity
combined at (Err why) name = Err why
combined at (Ok index) (Err why) = Err why
combined at (Ok (Some i)) (Ok (Some k)) = cond (eqb i k) (Ok (Some i)) (Err (TwoBits at))
combined at (Ok (Some i)) (Ok None) = Ok (Some i)
combined at (Ok None) (Ok name) = Ok name

-- the bit that the BIT at a place means, by its INDEX and its NAME
unfoldable pub identified : List ℕ → List ℕ → ℕ → BitParts → Identity
identified s names at parts = combined at (bit_by_index s (count names) parts.index) (bit_by_name s names parts.name)

-- a BIT with neither: 22
abbrev pub on_identity : ℕ → Bool → Option ℕ → Result Bit Refusal
on_identity at on (Some number) = Ok (record { number = number; on = on })
on_identity at on None = Err (NoBit at)

-- the parts of the BIT at a place: INDEX, NAME and the VALUE flag
unfoldable pub bit_parts_reading : List ℕ → List ℕ → ℕ → BitParts → Result Bit Refusal
bit_parts_reading s names at parts = and_then (identified s names at parts) (on_identity at parts.on.present)

-- the BIT whose contents are the bytes of s from a position on, walked whole: its first fault, or its parts
unfoldable pub bit_walked : List ℕ → ℕ → Result BitParts Refusal
bit_walked s from = on_walk (walked bit_policy s from) Err (λ slots. Ok (bit_parts slots))

-- that BIT: walked whole, then judged
unfoldable pub bit_reading : List ℕ → List ℕ → ℕ → Result Bit Refusal
bit_reading s names from = and_then (bit_walked s from) (bit_parts_reading s names (from - 4))
