-- The three causes of 18, by which attributes stand.
use Rattle.std.specs.Prelude.{Option, Some, None}
use Prim.Native.Nat.{ℕ, ◌-◌}
use mathlib.Core.Path.{◌≡◌, refl}
use mathlib.Core.Bool.{Bool, ◌&&◌, cond}
use Rattle.bitset_form.specs.declared.parts.BitsetParts.{BitsetParts}
use Rattle.bitset.specs.Judge.{mixed_at}

unfoldable pub mixed_by : Bool → Bool → Bool → Bool → ℕ → ℕ → Option ℕ
mixed_by nomask bits value mask a b = cond (bits && value) (Some a) (cond (bits && mask) (Some b) (cond (nomask && mask) (Some b) None))

module _ (parts : BitsetParts) where
  pub mixed-is : mixed_at parts ≡ mixed_by parts.nomask.present parts.bits.present parts.value.present parts.mask.present (parts.value.start - 4) (parts.mask.start - 4)
  unfolding mixed_at mixed_by
  mixed-is = refl
