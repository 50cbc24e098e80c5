-- The rule of the settings (document 01, "The box a call is given": "A set of N bits takes W words, N/32 rounded up, lowest first; bits from N on are 0. The slice
-- holds exactly these words").
use Rattle.std.specs.Prelude.{ℕ, List, Bool, ◌&&◌, length, eqb}
use Rattle.basics.specs.Scan.{all}
use Rattle.bits.specs.Set.{none_from}
use Rattle.layout.specs.declared.Set.{Set}
use Rattle.layout.specs.declared.Sizes.{Sizes}
use Rattle.layout.specs.Layout.{size_of, every_set, widths_of, total_words, set_at}

-- "bits from N on are 0" in a set of the port at a position
unfoldable pub set_clear : List ℕ → ℕ → Sizes → ℕ → Set → Bool
set_clear settings ports sizes position set = none_from (set_at settings ports (widths_of sizes) position set) (size_of sizes set)

-- so in every set of a port
unfoldable pub port_clear : List ℕ → ℕ → Sizes → ℕ → Bool
port_clear settings ports sizes position = every_set (set_clear settings ports sizes position)

-- "exactly these words", and so in every port
unfoldable pub settings_right : List ℕ → ℕ → Sizes → Bool
settings_right settings ports sizes = eqb (length settings) (total_words ports (widths_of sizes)) && all ports (port_clear settings ports sizes)
