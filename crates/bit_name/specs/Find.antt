-- Request C-14: a bit name looked for by itself, as C asks for it: without its NUL.
use Rattle.std.specs.Prelude.{ℕ, ◌-◌, List, Bool, ◌&&◌, not, cond, length, get_or, eqb, leb, Option, Some, None, Result, Ok, Err}
use Rattle.names.specs.Rule.{names_right}
use Rattle.names.specs.Search.{not_sought, lookup}
use Rattle.names.specs.declared.Lookup.{Lookup}
use Rattle.refusal.specs.Refusal.{number_of}
use Rattle.refusal.specs.declared.Refusal.{Refusal}
use Rattle.refusal.specs.declared.Refusal.TheVariants.{Box}

-- a name without its NUL: at most 31 bytes, the last of them not NUL
unfoldable pub bare : List ℕ → Bool
bare name = leb (length name) 31 && not (eqb (get_or name (length name - 1) 0) 0)

-- the search in a list that breaks no rule; what is no name without its NUL is compared with no entry
unfoldable pub searched : List ℕ → List ℕ → Result Lookup Refusal
searched names name = cond (names_right names) (Ok (cond (bare name) (lookup names name) not_sought)) (Err Box)

-- what C is told: document 01's number, 0 where the list breaks no rule; the bit; how many entries were compared
pub record Found : Type 0 where
  pub number : ℕ
  pub bit : ℕ
  pub compared : ℕ

-- the bit, 2^32 - 1 where no entry equals the name
abbrev pub bit_told : Option ℕ → ℕ
bit_told (Some bit) = bit
bit_told None = 4294967295

-- what is told of a search: its bit and its count; of a list that breaks a rule, 1 and nothing else
abbrev pub told_of : Result Lookup Refusal → Found
told_of (Ok l) = record { number = 0; bit = bit_told l.bit; compared = l.compared }
told_of (Err why) = record { number = number_of why; bit = 0; compared = 0 }

-- what is told of a name
unfoldable pub name_found : List ℕ → List ℕ → Found
name_found names name = told_of (searched names name)
