-- Laws of the two lengths.
use Prim.Native.Nat.{ℕ}
use mathlib.Core.Path.{◌≡◌, ap, ◌∙◌}
use Rattle.netlink_headers.specs.Lengths.{round_up4}
use Rattle.netlink_headers.specs.declared.lengths.Stated.{Stated}
use Rattle.netlink_headers.specs.declared.lengths.Step.{Step}

-- the bytes of the step of a stated length
pub step-bytes : (n bytes : ℕ) (stated : Stated) (step : Step) → stated.0 ≡ n → step.0 ≡ round_up4 stated.0 → bytes ≡ step.0 → bytes ≡ round_up4 n
step-bytes n bytes stated step e f g = g ∙ f ∙ ap round_up4 e

-- the bytes of a step that is known
pub bytes_of : (step : Step) (n bytes : ℕ) → step.0 ≡ n → bytes ≡ step.0 → bytes ≡ n
bytes_of step n bytes e f = f ∙ e
