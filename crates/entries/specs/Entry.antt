-- Lists of 32-byte entries (document 01, "The box a call is given": "Two bit-name lists .. 32 bytes an entry, N entries").
use Rattle.std.specs.Prelude.{ℕ, ◌*◌, ◌/◌, Bool, ◌||◌, not, cond, List, [], length, get_or, take, drop, eqb, ltb}
use Rattle.basics.specs.Scan.{all}
use Rattle.basics.specs.Nuls.{same_byte}

-- the whole entries of a list
abbrev pub count : List ℕ → ℕ
count list = length list / 32

-- entry i, with no bytes past the last
unfoldable pub entry_at : List ℕ → ℕ → List ℕ
entry_at list i = cond (ltb i (count list)) (take 32 (drop (i * 32) list)) []

-- whether a and b are the same entry
unfoldable pub same_entry : List ℕ → List ℕ → Bool
same_entry a b = all 32 (same_byte a b)

-- whether an entry has no name
abbrev pub is_empty : List ℕ → Bool
is_empty e = eqb (get_or e 0 0) 0

-- whether entries i and k differ
unfoldable pub differs : List ℕ → ℕ → ℕ → Bool
differs list i k = not (same_entry (entry_at list i) (entry_at list k))

-- entry i is empty, or differs from every entry before it
unfoldable pub entry_new : List ℕ → ℕ → Bool
entry_new list i = is_empty (entry_at list i) || all i (differs list i)

-- the entries are distinct, those that are empty aside (document 01, "The box a call is given": "Empty entries .. may repeat; the others in one list are distinct")
unfoldable pub entries_distinct : List ℕ → Bool
entries_distinct list = all (count list) (entry_new list)
