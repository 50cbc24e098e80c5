-- Words as their little-endian bytes (document 01, "What the box reads and writes": "settings as the little-endian bytes of their words").
use Rattle.std.specs.Prelude.{ℕ, zero, suc, ◌*◌, ◌/◌, ◌<◌, List, [], ◌∷◌, ◌++◌, length, get_or}
use Rattle.basics.specs.Numbers.{le32, u32_at}

-- f 0, f 1, .. f (n - 1)
unfoldable pub table : ℕ → (ℕ → ℕ) → List ℕ
table zero f = []
table (suc n) f = table n f ++ (f n ∷ [])

-- the words whose bytes these are: up to three bytes past the last whole word are none
unfoldable pub words_in : List ℕ → List ℕ
words_in s = table (length s / 4) (λ j. u32_at s (j * 4))

-- the bytes of the words
unfoldable pub bytes_of : List ℕ → List ℕ
bytes_of [] = []
bytes_of (w ∷ ws) = le32 w ++ bytes_of ws

-- every number of the list is a byte, as in a buffer of C
abbrev pub Bytes : List ℕ → Type 0
Bytes s = (i : ℕ) → get_or s i 0 < 256
