-- Document 01, "Sizes on the wire": the stated length, and the step to the next.
use Rattle.std.specs.Prelude.{ℕ, ◌+◌, ◌*◌, ◌/◌}

-- the step: a stated length rounded up to a multiple of 4
abbrev pub round_up4 : ℕ → ℕ
round_up4 n = (n + 3) / 4 * 4
