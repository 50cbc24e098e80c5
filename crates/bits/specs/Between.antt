-- No promise rests on this file: how one word is searched for a bit at or past N.
use Rattle.std.specs.Prelude.{ℕ, ◌+◌, ◌*◌, Bool, ◌&&◌, leb, ltb}
use Rattle.basics.specs.Scan.{any}
use Rattle.bits.specs.Bit.{test}

-- bit b of word j is a bit i with n ≤ i < size
unfoldable pub is_between : ℕ → ℕ → ℕ → ℕ → ℕ → Bool
is_between w j n size b = leb n (j * 32 + b) && test w b && ltb (j * 32 + b) size

-- word j has a bit i with n ≤ i < size
unfoldable pub bit_between : ℕ → ℕ → ℕ → ℕ → Bool
bit_between w j n size = any 32 (is_between w j n size)
