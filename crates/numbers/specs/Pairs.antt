-- No promise rests on this file: how the NULs behind a name are checked, several pairs of bytes at once.
use Rattle.std.specs.Prelude.{ℕ, ◌+◌, List, Bool}
use Rattle.basics.specs.Nuls.{nul_then_nul}

-- a NUL j places past another place is followed by a NUL
unfoldable pub pair_at : List ℕ → ℕ → ℕ → Bool
pair_at s at j = nul_then_nul s (at + j)
