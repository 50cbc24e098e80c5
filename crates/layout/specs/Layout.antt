-- Where a set lies (document 01, "The box a call is given": "Port settings are lent as 32-bit words: for each port in roll order its debug set, then its flags").
-- No other definition says so.
use Rattle.std.specs.Prelude.{ℕ, ◌+◌, ◌*◌, List, Bool, ◌&&◌, take, drop}
use Rattle.bits.specs.Set.{words_for}
use Rattle.layout.specs.declared.Set.{Set}
use Rattle.layout.specs.declared.Set.TheVariants.{Debug, Flags}
use Rattle.layout.specs.declared.Sizes.{Sizes}

-- the names of each set
pub record Names : Type 0 where
  pub debug : List ℕ
  pub flags : List ℕ

-- the names, as they are lent
abbrev pub names_of : List ℕ → List ℕ → Names
names_of debug flags = record { debug = debug; flags = flags }

-- the names of a set
unfoldable pub list_of : Names → Set → List ℕ
list_of names Debug = names.debug
list_of names Flags = names.flags

-- the number for a set, of a number for each
unfoldable pub size_of : Sizes → Set → ℕ
size_of sizes Debug = sizes.debug
size_of sizes Flags = sizes.flags

-- a test that every set passes
unfoldable pub every_set : (Set → Bool) → Bool
every_set f = f Debug && f Flags

-- a number of each list
abbrev pub of_lists : (List ℕ → ℕ) → Names → Sizes
of_lists f names = record { debug = f names.debug; flags = f names.flags }

-- a number of each number
abbrev pub of_sizes : (ℕ → ℕ) → Sizes → Sizes
of_sizes f sizes = record { debug = f sizes.debug; flags = f sizes.flags }

-- the words that sets of these sizes take
abbrev pub widths_of : Sizes → Sizes
widths_of sizes = of_sizes words_for sizes

-- the words of one port
unfoldable pub port_words : Sizes → ℕ
port_words width = width.debug + width.flags

-- the first word of a set among those of its port
unfoldable pub first_of : Sizes → Set → ℕ
first_of width Debug = 0
first_of width Flags = width.debug

-- the words of all ports
unfoldable pub total_words : ℕ → Sizes → ℕ
total_words ports width = ports * port_words width

-- the first word of a set of the port at a position; in this order of the sets the count of ports does not matter
unfoldable pub set_place : ℕ → Sizes → ℕ → Set → ℕ
set_place ports width position set = position * port_words width + first_of width set

-- the words of that set
unfoldable pub set_at : List ℕ → ℕ → Sizes → ℕ → Set → List ℕ
set_at settings ports width position set = take (size_of width set) (drop (set_place ports width position set) settings)
