-- The bits of a number, lowest first.
use Rattle.std.specs.Prelude.{ℕ, zero, suc, ◌+◌, ◌*◌, ◌/◌, ◌%◌, ◌^◌, Bool, true, false, eqb}

-- bit i of a number, as 0 or 1
abbrev pub bit : ℕ → ℕ → ℕ
bit x i = x / 2 ^ i % 2

-- whether bit i of a number is 1
abbrev pub test : ℕ → ℕ → Bool
test x i = eqb (bit x i) 1

-- a truth value as 0 or 1
abbrev pub digit : Bool → ℕ
digit true = 1
digit false = 0

-- the number whose bits below k are those of f
unfoldable pub number : ℕ → (ℕ → Bool) → ℕ
number zero f = 0
number (suc k) f = number k (λ i. f (suc i)) * 2 + digit (f 0)
