-- No promise rests on this file: how ports are told apart in one pass. Each gets a mark, and alike ones get the same.
use Rattle.std.specs.Prelude.{ℕ, ◌+◌, ◌*◌, ◌/◌, ◌%◌, ◌<◌, ◌≡◌, List, length, get_or}
use Rattle.basics.specs.Numbers.{u32_at}
use Rattle.roll.specs.Record.{index_of, name_of}

-- the mark of an index
unfoldable pub index_mark : ℕ → ℕ
index_mark x = x % 1024

-- the mark of a name: each of its bytes has a part in it
unfoldable pub name_mark : List ℕ → ℕ
name_mark s = (u32_at s 0 * 483130339 + u32_at s 4 * 407823575 + u32_at s 8 * 476453121 + u32_at s 12 * 347328907) / 4194304 % 1024

-- the mark of the index of the port at a position
unfoldable pub mark_of_index : List ℕ → ℕ → ℕ
mark_of_index roll k = index_mark (index_of roll k)

-- the mark of its name
unfoldable pub mark_of_name : List ℕ → ℕ → ℕ
mark_of_name roll k = name_mark (name_of roll k)

-- in a table the marks of the first k ports are set
pub record Marked (f : ℕ → ℕ) (k : ℕ) (table : List ℕ) : Type 0 where
  pub room : length table ≡ 1024
  pub set : (j : ℕ) → j < k → get_or table (f j) 0 ≡ 1
