-- No promise rests on this file: how equal entries are found. Each entry leads to the last one before it that has the same hash.
use Rattle.std.specs.Prelude.{ℕ, zero, suc, ◌+◌, ◌-◌, ◌*◌, ◌/◌, ◌%◌, ◌^◌, ◌<◌, ◌≤◌, ◌≡◌, cond, List, get_or, eqb}
use Rattle.std.specs.Int.Bits.{bit_or, bit_xor}
use Rattle.basics.specs.Numbers.{u64_at}
use Rattle.entries.specs.Entry.{entry_at}

-- a number of 64 bits rotated by k bits
abbrev pub rotated : ℕ → ℕ → ℕ
rotated k x = bit_or ((x * 2 ^ k) % 2 ^ 64) (x / 2 ^ (64 - k))

-- four numbers in one, each rotated by bits of its own
unfoldable pub folded : ℕ → ℕ → ℕ → ℕ → ℕ
folded a b c d = bit_xor (bit_xor (bit_xor a (rotated 44 b)) (rotated 45 c)) (rotated 16 d)

-- a number of 64 bits spread over 1024
unfoldable pub spread : ℕ → ℕ
spread x = (x % 4294967296 * 1883130339 + x / 4294967296 * 1207823575) / 16777216 % 1024

-- the chain of an entry, of which there are 1024
unfoldable pub hash_of : List ℕ → ℕ
hash_of e = spread (folded (u64_at e 0) (u64_at e 8) (u64_at e 16) (u64_at e 24))

-- the last entry below i with the hash h, counted from 1; 0 for none
unfoldable pub last_of_hash : List ℕ → ℕ → ℕ → ℕ
last_of_hash list h zero = 0
last_of_hash list h (suc i) = cond (eqb (hash_of (entry_at list i)) h) (suc i) (last_of_hash list h i)

-- head holds, for each hash, the last entry below i
abbrev pub HeadRight : List ℕ → List ℕ → ℕ → Type 0
HeadRight list head i = (h : ℕ) → h < 1024 → get_or head h 0 ≡ last_of_hash list h i

-- links holds, for each entry below i, the one before it in its chain
abbrev pub LinksRight : List ℕ → List ℕ → ℕ → Type 0
LinksRight list links i = (j : ℕ) → j < i → get_or links j 0 ≡ last_of_hash list (hash_of (entry_at list j)) j

-- links, which has room for 512 entries, holds nothing from i on
abbrev pub LinksClear : List ℕ → ℕ → Type 0
LinksClear links i = (j : ℕ) → i ≤ j → j < 512 → get_or links j 0 ≡ 0
