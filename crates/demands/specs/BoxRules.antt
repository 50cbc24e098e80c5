-- The rules of the box once more, each as document 01, "The box a call is given", and request C-11 have it: over bytes and words alone, without the definitions by which
-- the code is judged. `box-exactly` (demands/proofs/BoxRules) shows that a box is right exactly when it keeps these.
use Rattle.std.specs.Prelude.{ℕ, ◌+◌, ◌*◌, ◌/◌, ◌%◌, ◌≤◌, ◌<◌, ◌≡◌, List, length, get_or}
use Rattle.basics.specs.Numbers.{u32_at}
use Rattle.bits.specs.Bit.{bit}
use Rattle.boxes.specs.Box.{Box, State}
use Rattle.boxes.specs.declared.Call.{Call}
use Rattle.handler.specs.Bytes.{Stored, in_words}

-- the field of `width` bytes at a place holds a name: fewer bytes than the field has, none of them NUL, then NULs only
pub record NameField (s : List ℕ) (at width : ℕ) : Type 0 where
  pub size : ℕ
  pub short : size < width
  pub name : (i : ℕ) → i < size → get_or s (at + i) 0 ≡ 0 → ⊥
  pub nuls : (i : ℕ) → size ≤ i → i < width → get_or s (at + i) 0 ≡ 0

-- the fields of `width` bytes at two places differ in a byte
pub record FieldsDiffer (s : List ℕ) (width a b : ℕ) : Type 0 where
  pub byte : ℕ
  pub inside : byte < width
  pub unlike : get_or s (a + byte) 0 ≡ get_or s (b + byte) 0 → ⊥

-- a list of bit names: N entries of 32 bytes, N from 1 to 512, each a name of 0 to 31 bytes, and two that are not empty differ
pub record NameList (names : List ℕ) : Type 0 where
  pub entries : ℕ
  pub some : 1 ≤ entries
  pub few : entries ≤ 512
  pub whole : length names ≡ entries * 32
  pub each : (i : ℕ) → i < entries → NameField names (i * 32) 32
  pub distinct : (i j : ℕ) → i < j → j < entries → (get_or names (i * 32) 0 ≡ 0 → ⊥) → (get_or names (j * 32) 0 ≡ 0 → ⊥)
      → FieldsDiffer names 32 (i * 32) (j * 32)

-- the record of a port at a place: kind 1, an index of 1 to 2,147,483,647, a name of 1 to 15 bytes
pub record RollRecord (roll : List ℕ) (at : ℕ) : Type 0 where
  pub kind : get_or roll at 0 ≡ 1
  pub index-low : 1 ≤ u32_at roll (at + 1)
  pub index-high : u32_at roll (at + 1) ≤ 2147483647
  pub name : NameField roll (at + 5) 16
  pub named : 1 ≤ name.size

-- a port roll: 1 to 64 records of 21 bytes, a kind byte, 4 of the index and 16 of the name; two ports differ in the index, and in the name
pub record PortRoll (roll : List ℕ) : Type 0 where
  pub ports : ℕ
  pub some : 1 ≤ ports
  pub few : ports ≤ 64
  pub whole : length roll ≡ ports * 21
  pub each : (k : ℕ) → k < ports → RollRecord roll (k * 21)
  pub indexes : (j k : ℕ) → j < k → k < ports → u32_at roll (j * 21 + 1) ≡ u32_at roll (k * 21 + 1) → ⊥
  pub names : (j k : ℕ) → j < k → k < ports → FieldsDiffer roll 16 (j * 21 + 5) (k * 21 + 5)

-- a set of N bits whose words, N/32 rounded up, begin at a place: bits from N on are 0
abbrev pub ClearFrom : ℕ → List ℕ → ℕ → Type 0
ClearFrom N words at = (i : ℕ) → N ≤ i → i < (N + 31) / 32 * 32 → bit (get_or words (at + i / 32) 0) (i % 32) ≡ 0

-- the words of all ports and no more: for each port a set of `debug` bits, then one of `flags` bits
pub record Settings (ports debug flags : ℕ) (words : List ℕ) : Type 0 where
  pub exact : length words ≡ ports * ((debug + 31) / 32 + (flags + 31) / 32)
  pub debug-clear : (p : ℕ) → p < ports → ClearFrom debug words (p * ((debug + 31) / 32 + (flags + 31) / 32))
  pub flags-clear : (p : ℕ) → p < ports → ClearFrom flags words (p * ((debug + 31) / 32 + (flags + 31) / 32) + (debug + 31) / 32)

-- the rules of the box: family 16 to 65,535, admin 0 or 1, the roll, a place no higher than the port count, both name lists, the settings
pub record BoxRules (box : Box) (state : State) (call : Call) : Type 0 where
  pub family-low : 16 ≤ call.family
  pub family-high : call.family ≤ 65535
  pub admin : call.admin ≤ 1
  pub roll : PortRoll box.roll
  pub place : call.place ≤ roll.ports
  pub debug : NameList box.names.debug
  pub flags : NameList box.names.flags
  pub settings : Settings roll.ports debug.entries flags.entries state.words

-- the same rules where the settings are lent as bytes: these are whole words, and the box of their words keeps the rules
abbrev pub StoredRules : Box → Stored → Call → Type 0
StoredRules box stored call = (length stored.settings % 4 ≡ 0) × BoxRules box (in_words stored) call
