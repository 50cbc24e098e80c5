-- Bytes of a name, behind which NULs stand (document 01, "The box a call is given": "bytes that aren't NUL, then NULs only").
use Rattle.std.specs.Prelude.{ℕ, ◌+◌, List, Bool, ◌||◌, not, get_or, eqb}

-- a NUL at j is followed by a NUL
unfoldable pub nul_then_nul : List ℕ → ℕ → Bool
nul_then_nul s j = not (eqb (get_or s j 0) 0) || eqb (get_or s (j + 1) 0) 0

-- whether byte j of a is that of b, where NULs follow the shorter one
unfoldable pub same_byte : List ℕ → List ℕ → ℕ → Bool
same_byte a b j = eqb (get_or a j 0) (get_or b j 0)
