-- Document 01, "Bitsets", and request C-12: what an accepted bitset says, stated a second time, from its bytes. Taken over are the walk of a parent and the four forms of
-- a bitset; not the definitions by which a bitset is read, nor the search for a name.
use Rattle.std.specs.Prelude.{ℕ, ◌+◌, ◌-◌, ◌*◌, ◌/◌, ◌%◌, ◌≤◌, ◌<◌, ◌≡◌, List, [], ◌∷◌, Bool, true, false, ◌⊎◌, length, get_or}
use Rattle.basics.specs.Numbers.{u16_at, u32_at}
use Rattle.bits.specs.Bit.{test}
use Rattle.bits.specs.Change.{Listed}
use Rattle.entries.specs.Entry.{count}
use Rattle.netlink_attributes.specs.Attributes.{Attributes, attributes, part_of}
use Rattle.netlink.specs.Walk.{found, absent, walked}
use Rattle.netlink.specs.Claims.{None, LastIs, PartsIn}
use Rattle.netlink.specs.declared.walk.Slot.{Slot}
use Rattle.netlink.specs.declared.walk.Stop.TheVariants.{Whole}
use Rattle.bitset_form.specs.Policies.{bitset_policy, bits_policy, bit_policy}
use Rattle.bitset_form.specs.declared.parts.BitsetParts.{BitsetParts}
use Rattle.bitset_form.specs.declared.parts.BitParts.{BitParts}
use Rattle.bitset_form.specs.Bitset.{Bitset}
use Rattle.bitset_form.specs.Bitset.Bitset.{masked_bitmap, nomask_bitmap, masked_list, nomask_list}
use Rattle.layout.specs.Layout.{list_of}
use Rattle.boxes.specs.Box.{Box}
use Rattle.demands.specs.Message.{Named}
use Rattle.demands.specs.Parts.{StandsIn}

-- the attribute is there
abbrev pub Stands : Slot → Type 0
Stands slot = slot.present ≡ true

-- the attribute is not there
abbrev pub Lacks : Slot → Type 0
Lacks slot = slot.present ≡ false

-- the payload of an attribute of s
abbrev pub payload_in : List ℕ → Slot → List ℕ
payload_in s slot = part_of s slot.start slot.end

-- the slot of a type among the attributes of a parent: that of its last attribute of the type, or absent where it has none
pub data SlotIs (kind : ℕ) (xs : Attributes) : Slot → Type 0 where
  last_one : {start end : ℕ} → LastIs kind start end xs → SlotIs kind xs (found start end)
  no_one : None kind xs → SlotIs kind xs absent

-- the parts of a BIT with these attributes: 1 INDEX, 2 NAME, 3 the VALUE flag
pub record BitPartsAre (xs : Attributes) (parts : BitParts) : Type 0 where
  pub index : SlotIs 1 xs parts.index
  pub name : SlotIs 2 xs parts.name
  pub on : SlotIs 3 xs parts.on

-- the parts of a bitset with these attributes: 1 NOMASK, 2 SIZE, 3 BITS, 4 VALUE, 5 MASK
pub record BitsetPartsAre (xs : Attributes) (parts : BitsetParts) : Type 0 where
  pub nomask : SlotIs 1 xs parts.nomask
  pub size : SlotIs 2 xs parts.size
  pub bits : SlotIs 3 xs parts.bits
  pub value : SlotIs 4 xs parts.value
  pub mask : SlotIs 5 xs parts.mask

-- a payload is the name of an entry of a list: its first byte is not NUL, and the 32 bytes of the entry are its bytes, its NUL among them, and NULs behind it (`get_or`
-- gives 0 past its end)
pub record IsNameOf (names : List ℕ) (entry : ℕ) (name : List ℕ) : Type 0 where
  pub inside : entry < count names
  pub some : get_or name 0 0 ≡ 0 → ⊥
  pub short : length name ≤ 32
  pub bytes : (j : ℕ) → j < 32 → get_or names (entry * 32 + j) 0 ≡ get_or name j 0

-- the number of the bit that a BIT means, below N: where INDEX stands, the number in it; where NAME stands, that of the entry whose name it is; one of them
-- stands, and where both do, both mean this bit
pub record Means (s names : List ℕ) (parts : BitParts) (number : ℕ) : Type 0 where
  pub below : number < count names
  pub given : Stands parts.index ⊎ Stands parts.name
  pub by_index : Stands parts.index → number ≡ u32_at (payload_in s parts.index) 0
  pub by_name : Stands parts.name → IsNameOf names number (payload_in s parts.name)

-- the BIT whose contents stand from start to end of s is right as a whole, its parts stand in it, and they say this bit: its number, and whether the VALUE
-- flag stands
pub record BitSays (s names : List ℕ) (start end : ℕ) (entry : Listed) : Type 0 where
  pub parts : BitParts
  pub whole : (walked bit_policy (part_of s 0 end) start).stop ≡ Whole
  pub are : BitPartsAre (attributes (part_of s 0 end) start) parts
  pub inside : PartsIn start end (parts.index ∷ parts.name ∷ parts.on ∷ [])
  pub number : Means (part_of s 0 end) names parts entry.bit
  pub on : entry.on ≡ parts.on.present

-- the BITs that stand from a place of s on, each as long as its header states and right behind the one before, up to the end of s, say these bits in
-- order
pub data Lists (s names : List ℕ) : ℕ → List Listed → Type 0 where
  no_more : {at : ℕ} → length s < at + 4 → Lists s names at []
  one_bit : {at : ℕ} {entries : List Listed} (start end : ℕ) (entry : Listed) → StandsIn at (length s) start end
      → end ≡ start - 4 + u16_at s (start - 4) → BitSays s names start end entry → Lists s names end entries → Lists s names at (entry ∷ entries)

-- bit i of a bitmap: bit i % 32 of word i / 32, "lowest first", a little-endian number of four bytes
abbrev pub bitmap_bit : List ℕ → ℕ → Bool
bitmap_bit bitmap i = test (u32_at bitmap (i / 32 * 4)) (i % 32)

-- the bits below SIZE are those of a bitmap
abbrev pub FromBitmap : ℕ → (ℕ → Bool) → List ℕ → Type 0
FromBitmap size f bitmap = (i : ℕ) → i < size → f i ≡ bitmap_bit bitmap i

-- the bitset whose contents are the bytes of s from a position on is right as a whole, and its parts stand in it
pub record BitsetOpened (s : List ℕ) (from : ℕ) (parts : BitsetParts) : Type 0 where
  pub whole : (walked bitset_policy s from).stop ≡ Whole
  pub are : BitsetPartsAre (attributes s from) parts
  pub inside : PartsIn from (length s) (parts.nomask ∷ parts.size ∷ parts.bits ∷ parts.value ∷ parts.mask ∷ [])

-- SIZE and VALUE stand, BITS does not; SIZE is the number in it, and the bits below it are those of VALUE
pub record CompactSays (s : List ℕ) (parts : BitsetParts) (size : ℕ) (value : ℕ → Bool) : Type 0 where
  pub no_bits : Lacks parts.bits
  pub has-size : Stands parts.size
  pub has_value : Stands parts.value
  pub size_is : size ≡ u32_at (payload_in s parts.size) 0
  pub value-is : FromBitmap size value (payload_in s parts.value)

-- BITS stands and is right as a whole, VALUE and MASK do not; its BITs say these bits in order
pub record ListSays (s names : List ℕ) (parts : BitsetParts) (entries : List Listed) : Type 0 where
  pub has-bits : Stands parts.bits
  pub no_value : Lacks parts.value
  pub no-mask : Lacks parts.mask
  pub whole : (walked bits_policy (part_of s 0 parts.bits.end) parts.bits.start).stop ≡ Whole
  pub lists : Lists (part_of s 0 parts.bits.end) names parts.bits.start entries

-- what the bitset says whose contents are the bytes of s from a position on: compact with MASK; compact under NOMASK; a list; a list under NOMASK
pub data BitsetSays (s : List ℕ) (from : ℕ) (names : List ℕ) : Bitset → Type 0 where
  compact_masked : {size : ℕ} {value mask : ℕ → Bool} (parts : BitsetParts) → BitsetOpened s from parts → Lacks parts.nomask
      → CompactSays s parts size value → Stands parts.mask → FromBitmap size mask (payload_in s parts.mask)
      → BitsetSays s from names (masked_bitmap size value mask)
  compact_nomask : {size : ℕ} {value : ℕ → Bool} (parts : BitsetParts) → BitsetOpened s from parts → Stands parts.nomask
      → CompactSays s parts size value → Lacks parts.mask → BitsetSays s from names (nomask_bitmap size value)
  list_masked : {entries : List Listed} (parts : BitsetParts) → BitsetOpened s from parts → Lacks parts.nomask
      → ListSays s names parts entries → BitsetSays s from names (masked_list entries)
  list_nomask : {entries : List Listed} (parts : BitsetParts) → BitsetOpened s from parts → Stands parts.nomask
      → ListSays s names parts entries → BitsetSays s from names (nomask_list entries)

-- what the bitset says that a request carries, over the names of its set
abbrev pub RequestSays : (box : Box) (m : List ℕ) → Named box.roll m → Bitset → Type 0
RequestSays box m n b = BitsetSays (part_of m 0 n.parts.bitset.end) n.parts.bitset.start (list_of box.names n.command.set) b
