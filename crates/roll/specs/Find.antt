-- The port of an index or of a name (document 01, "What a call says back", refusal 16: "no such port, by index if given, else by name").
use Rattle.std.specs.Prelude.{ℕ, List, Bool, cond, eqb, ltb, Option, Some, None}
use Rattle.basics.specs.Scan.{first}
use Rattle.roll.specs.Record.{port_count, index_of, name_of}
use Rattle.roll.specs.Name.{holds_name}

-- the port at a position has the index x
unfoldable pub has_index : List ℕ → ℕ → ℕ → Bool
has_index roll x k = eqb (index_of roll k) x

-- it has the name
unfoldable pub has_name : List ℕ → List ℕ → ℕ → Bool
has_name roll name k = holds_name (name_of roll k) name

-- the first of n positions at which a test holds
unfoldable pub find_port : ℕ → (ℕ → Bool) → Option ℕ
find_port n f = cond (ltb (first n f) n) (Some (first n f)) None

-- the first port of the index x
unfoldable pub found_by_index : List ℕ → ℕ → Option ℕ
found_by_index roll x = find_port (port_count roll) (has_index roll x)

-- the first port of the name
unfoldable pub found_by_name : List ℕ → List ℕ → Option ℕ
found_by_name roll name = find_port (port_count roll) (has_name roll name)
