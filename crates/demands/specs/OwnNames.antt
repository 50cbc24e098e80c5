-- Request C-12: "Where a BIT carries both, both must mean the same bit". In an accepted bit list every BIT that carries an index and a name carries the
-- name of that index's entry; and what 21 and 23 test, by the bytes of the list. (`BitsetSays` says of each BIT all that is read of it.)
use Rattle.std.specs.Prelude.{ℕ, ◌≡◌, List, true, false}
use Rattle.basics.specs.Numbers.{u32_at}
use Rattle.netlink_attributes.specs.Attributes.{Attributes, attributes, part_of}
use Rattle.netlink_attributes.specs.Attributes.Attributes.{attribute}
use Rattle.netlink.specs.Walk.{walked, slot_number}
use Rattle.netlink.specs.Claims.{LastIs}
use Rattle.netlink.specs.declared.walk.Slot.{Slot}
use Rattle.bitset_form.specs.Policies.{bitset_policy}
use Rattle.bitset_form.specs.Parts.{bitset_parts}
use Rattle.bitset_form.specs.declared.parts.BitsetParts.{BitsetParts}
use Rattle.layout.specs.Layout.{list_of}
use Rattle.boxes.specs.Box.{Box}
use Rattle.demands.specs.Bitset.{unknown_name, two_bits}
use Rattle.demands.specs.BoxFault.{Exactly}
use Rattle.demands.specs.Message.{Named}
use Rattle.demands.specs.Says.{Stands, payload_in, IsNameOf}

-- one of the attributes of a parent: its payload stands from start to end
pub data Among (start end : ℕ) : Attributes → Type 0 where
  first : {kind bits : ℕ} {rest : Attributes} → Among start end (attribute kind bits start end rest)
  later : {kind bits a z : ℕ} {rest : Attributes} → Among start end rest → Among start end (attribute kind bits a z rest)

-- what is said of a BIT of s with these attributes: where INDEX (type 1) and NAME (type 2) stand among them, the last NAME is the name of the entry with the last INDEX's number
abbrev pub OwnName : List ℕ → List ℕ → Attributes → Type 0
OwnName s names xs = (a e b z : ℕ) → LastIs 1 a e xs → LastIs 2 b z xs → IsNameOf names (u32_at (part_of s a e) 0) (part_of s b z)

-- it is said of the BIT whose contents stand from start to end of s
abbrev pub BitOwnName : List ℕ → List ℕ → ℕ → ℕ → Type 0
BitOwnName s names start end = OwnName (part_of s 0 end) names (attributes (part_of s 0 end) start)

-- it is said of every BIT of the BITS whose contents are the bytes of s from a position on
abbrev pub EachOwnName : List ℕ → ℕ → List ℕ → Type 0
EachOwnName s from names = (start end : ℕ) → Among start end (attributes s from) → BitOwnName s names start end

-- it is said of the BITS of a bitset with these parts, where it has one
abbrev pub ListOwnNames : List ℕ → List ℕ → BitsetParts → Type 0
ListOwnNames s names parts = Stands parts.bits → EachOwnName (part_of s 0 parts.bits.end) parts.bits.start names

-- it is said of the bitset whose contents are the bytes of s from a position on
abbrev pub OwnNames : List ℕ → ℕ → List ℕ → Type 0
OwnNames s from names = ListOwnNames s names (bitset_parts (walked bitset_policy s from).slots)

-- it is said of the bitset that a request carries, over the names of its set
abbrev pub RequestOwnNames : (box : Box) (m : List ℕ) → Named box.roll m → Type 0
RequestOwnNames box m n = OwnNames (part_of m 0 n.parts.bitset.end) n.parts.bitset.start (list_of box.names n.command.set)

-- the tests of 21 and 23 by the bytes of the list: NAME is unknown exactly where it is the name of no entry; one that is known means another bit than INDEX exactly where
-- it is not the name of the entry with INDEX's number
pub record NameTests (s names : List ℕ) (index name : Slot) : Type 0 where
  pub unknown : Exactly (unknown_name s names name ≡ true) ((entry : ℕ) → IsNameOf names entry (payload_in s name) → ⊥)
  pub two-bits : unknown_name s names name ≡ false
      → Exactly (two_bits s names index name ≡ true) (IsNameOf names (slot_number s index) (payload_in s name) → ⊥)
