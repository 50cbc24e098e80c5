-- Laws of the numbers in a slice.
use Prim.Native.Nat.{ℕ, ◌+◌, ◌≤◌}
use mathlib.Core.Path.{◌≡◌, refl, sym}
use mathlib.Core.List.{List}
use lib.ListN.{length, get_or, get_or-eq_default}
use native.Mathlib.Omega.{arith}
use Rattle.basics.specs.Numbers.{byte_at, u16_at, u32_at}

pub byte-in : (s : List ℕ) (at : ℕ) → get_or s at 0 ≡ byte_at s at
unfolding byte_at
byte-in s at = refl

-- past the end every byte is 0
module _ (s : List ℕ) (at : ℕ) (h : length s ≤ at) where
  gone : (k : ℕ) → get_or s (at + k) 0 ≡ 0
  gone k = get_or-eq_default s 0 (omega arith)

  pub byte_past : 0 ≡ byte_at s at
  unfolding byte_at
  byte_past = sym (get_or-eq_default s 0 h)

  pub u16-past : 0 ≡ u16_at s at
  unfolding u16_at
  u16-past = let a : get_or s at 0 ≡ 0 = get_or-eq_default s 0 h in omega (arith, gone 1)

  pub u32-past : 0 ≡ u32_at s at
  unfolding u32_at
  u32-past = let a : get_or s at 0 ≡ 0 = get_or-eq_default s 0 h in omega (arith, gone 1, gone 2, gone 3)

pub ruleset number-laws = (byte-in, byte_past, u16-past, u32-past)
