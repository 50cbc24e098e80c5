-- Document 01, "Replies": "BITS with one BIT per set bit, rising, INDEX then NAME where the bit has one".
use Rattle.std.specs.Prelude.{ℕ, zero, suc, Bool, cond, List, [], ◌++◌}
use Rattle.entries.specs.Entry.{entry_at}
use Rattle.index_name.specs.IndexName.{index_nest}

-- the BIT (type 1) of a bit that is listed, else nothing
unfoldable pub bit_in : List ℕ → (ℕ → Bool) → ℕ → List ℕ
bit_in names listed i = cond (listed i) (index_nest 1 i (entry_at names i)) []

-- the BITs of the listed bits below n, rising
unfoldable pub bits_bytes : List ℕ → (ℕ → Bool) → ℕ → List ℕ
bits_bytes names listed zero = []
bits_bytes names listed (suc n) = bits_bytes names listed n ++ bit_in names listed n
