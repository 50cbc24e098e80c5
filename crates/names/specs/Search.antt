-- The search for a name (document 01, "Bitsets": "A name is the entry that equals it .. an empty name matches none"), and how many entries it compares (request C-14).
use Rattle.std.specs.Prelude.{ℕ, suc, Bool, ◌&&◌, ◌||◌, cond, Some, None, List, length, eqb, ltb}
use Rattle.basics.specs.Scan.{first, tally}
use Rattle.entries.specs.Entry.{count, entry_at, same_entry, is_empty}
use Rattle.entries.specs.Length.{name_length, last_byte}
use Rattle.names.specs.declared.Lookup.{Lookup}

-- whether entry i equals the name; NULs may follow the name
unfoldable pub is_entry : List ℕ → List ℕ → ℕ → Bool
is_entry names name i = same_entry (entry_at names i) name

-- a name that no entry can equal: empty, which matches none, or longer than an entry
unfoldable pub no_name : List ℕ → Bool
no_name name = is_empty name || ltb 32 (length name)

-- whether entry i has the length and the last byte of the name, both without the NULs behind them
unfoldable pub agrees : List ℕ → List ℕ → ℕ → Bool
agrees names name i = eqb (name_length (entry_at names i)) (name_length name) && eqb (last_byte (entry_at names i)) (last_byte name)

-- how many of the first n entries are compared further: "exactly those that agree in both"
unfoldable pub compared_in : List ℕ → List ℕ → ℕ → ℕ
compared_in names name n = tally n (agrees names name)

-- no search for a name that no entry can equal: "none for an empty name"
abbrev pub not_sought : Lookup
not_sought = record { bit = None; compared = 0 }

-- no entry equals the name
abbrev pub not_found : List ℕ → List ℕ → Lookup
not_found names name = record { bit = None; compared = compared_in names name (count names) }

-- entry i equals it: "up to the hit", which counts
abbrev pub found_at : List ℕ → List ℕ → ℕ → Lookup
found_at names name i = record { bit = Some i; compared = compared_in names name (suc i) }

-- the first entry that equals the name
unfoldable pub lookup : List ℕ → List ℕ → Lookup
lookup names name =
    cond (no_name name) not_sought
    (cond (ltb (first (count names) (is_entry names name)) (count names)) (found_at names name (first (count names) (is_entry names name))) (not_found names name))
