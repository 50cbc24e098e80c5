-- What is told of a box that breaks a rule: the first part at fault, and where. Each rule is as document 01 has it (`demands` BoxRules), over bytes and
-- words alone. `fault-told` (demands/proofs/BoxFault) shows that `box_fault`, by which the code is judged, tells this.
use Rattle.std.specs.Prelude.{ℕ, ◌+◌, ◌-◌, ◌*◌, ◌/◌, ◌%◌, ◌≤◌, ◌<◌, min, ◌≡◌, List, ◌++◌, length, take, get_or, replicate}
use Rattle.bits.specs.Bit.{bit}
use Rattle.word_bytes.specs.Bytes.{words_in}
use Rattle.boxes.specs.Box.{Box}
use Rattle.boxes.specs.declared.Call.{Call}
use Rattle.handler.specs.Bytes.{Stored}
use Rattle.demands.specs.BoxRules.{NameList, PortRoll, Settings}

-- the parts of a box, as they are lent
pub record BoxParts : Type 0 where
  pub family : ℕ
  pub admin : ℕ
  pub box : Box
  pub settings : Stored

-- a call that is lent them, at a position and a place
abbrev pub call_at : BoxParts → ℕ → ℕ → Call
call_at c position place = record { family = c.family; admin = c.admin; position = position; place = place }

-- each side where the other is
abbrev pub Exactly : Type 0 → Type 0 → Type 0
Exactly A B = (A → B) × (B → A)

-- the part of a number keeps its rule: 1 family, 2 admin, 3 roll, 4 debug names, 5 flag names, 6 settings. Those are judged by the roll and both lists
pub data Kept (c : BoxParts) : ℕ → Type 0 where
  family-kept : 16 ≤ c.family → c.family ≤ 65535 → Kept c 1
  admin-kept : c.admin ≤ 1 → Kept c 2
  roll-kept : PortRoll c.box.roll → Kept c 3
  debug-kept : NameList c.box.names.debug → Kept c 4
  flags-kept : NameList c.box.names.flags → Kept c 5
  settings-kept : (roll : PortRoll c.box.roll) (debug : NameList c.box.names.debug) (flags : NameList c.box.names.flags)
      → length c.settings.settings % 4 ≡ 0 → Settings roll.ports debug.entries flags.entries (words_in c.settings.settings) → Kept c 6

-- every part does
abbrev pub AllKept : BoxParts → Type 0
AllKept c = (n : ℕ) → 1 ≤ n → n ≤ 6 → Kept c n

-- the part of a number breaks its rule, and every part before it keeps its own
abbrev pub FirstBroken : BoxParts → ℕ → Type 0
FirstBroken c n = ((k : ℕ) → 1 ≤ k → k < n → Kept c k) × (Kept c n → ⊥)

-- the longest beginning that keeps a rule ends at an offset: no longer one keeps it, and each of whole items up to there does
pub record LongestRight (Rule : List ℕ → Type 0) (item : ℕ) (part : List ℕ) (offset : ℕ) : Type 0 where
  pub inside : offset ≤ length part
  pub right : 0 < offset → Rule (take offset part)
  pub longer : (n : ℕ) → offset < n → n ≤ length part → Rule (take n part) → ⊥
  pub shorter : (k : ℕ) → 1 ≤ k → k * item ≤ offset → Rule (take (k * item) part)

-- the words of all ports' sets
abbrev pub all_words : ℕ → ℕ → ℕ → ℕ
all_words ports debug flags = ports * ((debug + 31) / 32 + (flags + 31) / 32)

-- words with zeros behind them, so many in all
unfoldable pub zeros_behind : ℕ → List ℕ → List ℕ
zeros_behind n words = words ++ replicate (n - length words) 0

-- words that are right settings with zeros behind them
abbrev pub RightBeginning : ℕ → ℕ → ℕ → List ℕ → Type 0
RightBeginning ports debug flags words = Settings ports debug flags (zeros_behind (all_words ports debug flags) words)

-- word j is no word of a set of N bits that begins at a place, or it holds no bit of it from N on
abbrev pub ClearAt : ℕ → List ℕ → ℕ → ℕ → Type 0
ClearAt N words at j = (i : ℕ) → N ≤ i → i < (N + 31) / 32 * 32 → at + i / 32 ≡ j → bit (get_or words j 0) (i % 32) ≡ 0

-- word j holds no bit at or past N of its set
pub record ClearWord (ports debug flags : ℕ) (words : List ℕ) (j : ℕ) : Type 0 where
  pub debug-clear : (p : ℕ) → p < ports → ClearAt debug words (p * ((debug + 31) / 32 + (flags + 31) / 32)) j
  pub flags-clear : (p : ℕ) → p < ports → ClearAt flags words (p * ((debug + 31) / 32 + (flags + 31) / 32) + (debug + 31) / 32) j

-- the first word at fault: behind the longest beginning of whole words that is right with zeros behind it; it is the first that holds a bit at or past N of its set
pub record FirstWord (ports debug flags : ℕ) (words : List ℕ) (n : ℕ) : Type 0 where
  pub longest : LongestRight (RightBeginning ports debug flags) 1 words n
  pub inside : n < length words
  pub before : (j : ℕ) → j < n → ClearWord ports debug flags words j
  pub here : ClearWord ports debug flags words n → ⊥

-- where settings are at fault: of another length, at the smaller of both lengths; else where the first word at fault begins
pub record SettingsPlace (ports debug flags : ℕ) (settings : List ℕ) (offset : ℕ) : Type 0 where
  pub inside : offset ≤ length settings
  pub other : (length settings ≡ all_words ports debug flags * 4 → ⊥) → offset ≡ min (length settings) (all_words ports debug flags * 4)
  pub exact : length settings ≡ all_words ports debug flags * 4 → (n : ℕ) × (offset ≡ n * 4) × FirstWord ports debug flags (words_in settings) n

-- what is told: 0 exactly where every part keeps its rule, the number of a part exactly where it is the first that does not, and the offset in it: in a roll, whose records have
-- 21 bytes, and in a list, whose entries have 32, where the longest right beginning ends
pub record FaultTold (c : BoxParts) (number offset : ℕ) : Type 0 where
  pub numbers : number ≤ 6
  pub sound : Exactly (number ≡ 0) (AllKept c)
  pub first : (n : ℕ) → 1 ≤ n → n ≤ 6 → Exactly (number ≡ n) (FirstBroken c n)
  pub nowhere : number ≤ 2 → offset ≡ 0
  pub in-roll : number ≡ 3 → LongestRight PortRoll 21 c.box.roll offset
  pub in-debug : number ≡ 4 → LongestRight NameList 32 c.box.names.debug offset
  pub in-flags : number ≡ 5 → LongestRight NameList 32 c.box.names.flags offset
  pub in-settings : number ≡ 6
      → (roll : PortRoll c.box.roll) (debug : NameList c.box.names.debug) (flags : NameList c.box.names.flags)
      → SettingsPlace roll.ports debug.entries flags.entries c.settings.settings offset
