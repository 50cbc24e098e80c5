-- No promise rests on this file: what the search for a name's NUL has passed.
use Rattle.std.specs.Prelude.{ℕ, ◌+◌, ◌≡◌, Bool, List, eqb, get_or, drop}
use Rattle.netlink.specs.Policy.{nul_at}

-- no byte before i is NUL: the first NUL of the whole is the first from i on
abbrev pub NulFrom : List ℕ → ℕ → Type 0
NulFrom s i = nul_at s ≡ i + nul_at (drop i s)

-- whether the byte j places past another is NUL
unfoldable pub is_nul : List ℕ → ℕ → ℕ → Bool
is_nul s at j = eqb (get_or s (at + j) 0) 0
