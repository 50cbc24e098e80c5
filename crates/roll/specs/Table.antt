-- No promise rests on this file: the table of a roll's ports, read once, and what the size of a record fits.
use Rattle.std.specs.Prelude.{ℕ, ◌*◌, ◌/◌, ◌%◌, ◌<◌, ◌≤◌, min, ◌≡◌, List, length, get_or, ltb}
use Rattle.roll.specs.Name.{name_at}
use Rattle.roll.specs.Record.{port_count, ports_listed, index_of, name_of}

-- the most bytes that a record takes
abbrev pub most_bytes : ℕ
most_bytes = 21

-- none, or room for an index and a name
abbrev pub SizeFits : ℕ → Type 0
SizeFits size = (size ≤ most_bytes) × (min 1 size * 21 ≤ size)

-- the low half of a word
abbrev pub low_of : ℕ → ℕ
low_of x = x % 4294967296

-- the high half of a word
abbrev pub high_of : ℕ → ℕ
high_of x = x / 4294967296

-- a table holds the ports of a roll: a word for each, of its index and of where its name stands
pub record Tabled (roll table : List ℕ) : Type 0 where
  pub count : length table ≡ port_count roll
  pub few : length table ≤ 64
  pub index : (k : ℕ) → k < length table → low_of (get_or table k 0) ≡ index_of roll k
  pub name : (k : ℕ) → k < length table → name_at roll (high_of (get_or table k 0)) ≡ name_of roll k

-- a table as it is read: it is empty unless the roll has 1 to 64 ports in whole records, and then it holds them
pub record TableRead (roll table : List ℕ) : Type 0 where
  pub told : ltb 0 (length table) ≡ ports_listed roll
  pub held : 0 < length table → Tabled roll table
