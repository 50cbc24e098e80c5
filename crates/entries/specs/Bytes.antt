-- No promise rests on this file: how many bytes of a number of 64 bits there are up to its last that is not 0.
use Rattle.std.specs.Prelude.{ℕ, suc, ◌^◌, ◌≤◌, ◌<◌, ◌≡◌}

-- the bytes from r on are 0, and the one before is not
pub record BytesIn (x r : ℕ) : Type 0 where
  pub most : r ≤ 8
  pub below : x < 256 ^ r
  pub top : (k : ℕ) → r ≡ suc k → 256 ^ k ≤ x
