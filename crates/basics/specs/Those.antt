-- How many: a count stands for a list in which each number that is meant stands once, and no other.
use Rattle.std.specs.Prelude.{ℕ, ◌<◌, ◌≡◌, length}
use mathlib.Core.List.{List, [], ◌∷◌, Memᴰ}

-- no number stands twice
pub data Once : List ℕ → Type 0 where
  none : Once []
  more : {a : ℕ} {s : List ℕ} → (Memᴰ a s → ⊥) → Once s → Once (a ∷ s)

-- so many of the numbers below n are meant
pub record CountOf (Meant : ℕ → Type 0) (n many : ℕ) : Type 0 where
  pub numbers : List ℕ
  pub once : Once numbers
  pub each : (k : ℕ) → Memᴰ k numbers → (k < n) × Meant k
  pub all : (k : ℕ) → k < n → Meant k → Memᴰ k numbers
  pub counted : length numbers ≡ many
