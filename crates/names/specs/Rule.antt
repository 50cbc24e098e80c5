-- The rule of a name list (document 01, "The box a call is given").
use Rattle.std.specs.Prelude.{ℕ, ◌%◌, Bool, ◌&&◌, List, length, get_or, eqb, leb}
use Rattle.basics.specs.Scan.{all}
use Rattle.basics.specs.Nuls.{nul_then_nul}
use Rattle.entries.specs.Entry.{count, entry_at, entries_distinct}

-- "An entry is 0 to 31 bytes that aren't NUL, then NULs only": its last byte is NUL, and after a NUL comes a NUL
unfoldable pub entry_right : List ℕ → Bool
entry_right e = eqb (get_or e 31 0) 0 && all 31 (nul_then_nul e)

-- whether entry i is so
unfoldable pub right_at : List ℕ → ℕ → Bool
right_at names i = entry_right (entry_at names i)

-- "32 bytes an entry, N entries, N from 1 to 512", each entry right, those that are not empty distinct
unfoldable pub names_right : List ℕ → Bool
names_right names =
    eqb (length names % 32) 0
    && (leb 1 (count names) && (leb (count names) 512 && (all (count names) (right_at names) && entries_distinct names)))
