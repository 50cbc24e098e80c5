-- What a call is lent (document 01, "The box a call is given"): the box, which no call changes, and the state, which a call may change.
use Rattle.std.specs.Prelude.{ℕ, List}
use Rattle.entries.specs.Entry.{count}
use Rattle.roll.specs.Record.{port_count}
use Rattle.layout.specs.declared.Set.{Set}
use Rattle.layout.specs.declared.Sizes.{Sizes}
use Rattle.layout.specs.Layout.{Names, names_of, of_lists, widths_of, size_of, set_place, set_at}

-- what no call changes: the roll and the names of each set
pub record Box : Type 0 where
  pub roll : List ℕ
  pub names : Names

-- what a call may change: the words of all ports' sets
pub record State : Type 0 where
  pub words : List ℕ

-- the box, as it is lent
abbrev pub box_of : List ℕ → List ℕ → List ℕ → Box
box_of roll debug flags = record { roll = roll; names = names_of debug flags }

-- the state, as it is lent
abbrev pub state_of : List ℕ → State
state_of words = record { words = words }

-- how many ports there are
abbrev pub ports_in : Box → ℕ
ports_in box = port_count box.roll

-- how many bits each set has
abbrev pub sizes_in : Box → Sizes
sizes_in box = of_lists count box.names

-- how many words each set takes
abbrev pub widths_in : Box → Sizes
widths_in box = widths_of (sizes_in box)

-- where a set of the port at a position begins
unfoldable pub place_in : Box → ℕ → Set → ℕ
place_in box position set = set_place (ports_in box) (widths_in box) position set

-- how many words a set has
unfoldable pub width_in : Box → Set → ℕ
width_in box set = size_of (widths_in box) set

-- the words of a set of the port at a position
unfoldable pub set_of : Box → State → ℕ → Set → List ℕ
set_of box state position set = set_at state.words (ports_in box) (widths_in box) position set
