-- Where what breaks a rule begins: behind the longest beginning that keeps it.
use Rattle.std.specs.Prelude.{ℕ, zero, suc, List, Bool, cond, length, take}

-- how long the longest beginning of at most n elements is that keeps a rule; 0 where none does
unfoldable pub longest : (List ℕ → Bool) → List ℕ → ℕ → ℕ
longest right s zero = 0
longest right s (suc n) = cond (right (take (suc n) s)) (suc n) (longest right s n)

-- how long the longest of all beginnings is that keeps it
unfoldable pub right_up_to : (List ℕ → Bool) → List ℕ → ℕ
right_up_to right s = longest right s (length s)
