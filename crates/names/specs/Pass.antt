-- No promise rests on this file: how a search passes the entries that have another last byte, several at a time.
use Rattle.std.specs.Prelude.{ℕ, ◌+◌, ◌*◌, ◌≤◌, ◌<◌, ◌≡◌, Bool, not, List, get_or, eqb}
use Rattle.entries.specs.Entry.{count}

-- whether the k-th entry from i on has another byte than this one at a place
unfoldable pub other_at : List ℕ → ℕ → ℕ → ℕ → ℕ → Bool
other_at names place byte i k = not (eqb (get_or names ((i + k) * 32 + place) 0) byte)

-- every entry from i up to r, which is not among them, has another byte at the place
pub record Others (names : List ℕ) (place byte i r : ℕ) : Type 0 where
  pub from : i ≤ r
  pub inside : r ≤ count names
  pub each : (k : ℕ) → i ≤ k → k < r → get_or names (k * 32 + place) 0 ≡ byte → ⊥

-- and r is the next that has the byte, or past the last entry
pub record NextWith (names : List ℕ) (place byte i r : ℕ) : Type 0 where
  pub others : Others names place byte i r
  pub has : r < count names → get_or names (r * 32 + place) 0 ≡ byte
