-- The rule of a roll (document 01, "The box a call is given", port roll).
use Rattle.std.specs.Prelude.{ℕ, List, Bool, ◌&&◌, not, leb, eqb}
use Rattle.basics.specs.Scan.{all}
use Rattle.roll.specs.Record.{port_count, index_of, name_of, ports_listed}
use Rattle.roll.specs.Name.{same_name, name_right}

-- "Index 1 to 2,147,483,647; name 1 to 15 bytes that aren't NUL, then NULs only"
unfoldable pub port_right : List ℕ → ℕ → Bool
port_right roll k = leb 1 (index_of roll k) && (leb (index_of roll k) 2147483647 && name_right (name_of roll k))

-- the port at j has another index than x, and another name
unfoldable pub another : List ℕ → ℕ → List ℕ → ℕ → Bool
another roll x name j = not (eqb (index_of roll j) x) && not (same_name (name_of roll j) name)

-- each port before the port at k has another index and another name
unfoldable pub is_new : List ℕ → ℕ → Bool
is_new roll k = all k (another roll (index_of roll k) (name_of roll k))

-- "Indexes distinct, names distinct"
unfoldable pub ports_distinct : List ℕ → Bool
ports_distinct roll = all (port_count roll) (is_new roll)

-- "1 to 64 ports" in whole records, each port right, and no two alike
unfoldable pub roll_right : List ℕ → Bool
roll_right roll = ports_listed roll && (all (port_count roll) (port_right roll) && ports_distinct roll)
