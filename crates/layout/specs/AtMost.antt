-- No promise rests on this file: bounds that inner functions require, and that a right box gives.
use Rattle.std.specs.Prelude.{ℕ, ◌≤◌}
use Rattle.layout.specs.declared.Sizes.{Sizes}

-- no number of the sets is larger
pub record AtMost (most : ℕ) (sizes : Sizes) : Type 0 where
  pub debug : sizes.debug ≤ most
  pub flags : sizes.flags ≤ most
