-- Document 01, "Replies": "the set under NOMASK", which is attribute 2. "With header flag 1: NOMASK, SIZE, VALUE of W words. Otherwise NOMASK,
-- SIZE, BITS".
use Rattle.std.specs.Prelude.{ℕ, Bool, cond, List, [], ◌++◌}
use Rattle.basics.specs.Numbers.{le32}
use Rattle.bits.specs.Set.{has}
use Rattle.word_bytes.specs.Bytes.{bytes_of}
use Rattle.netlink_write.specs.Attributes.{attr, nest}
use Rattle.bitset_reply.specs.List.{bits_bytes}

-- NOMASK (1), then SIZE (2), which is N
unfoldable pub opening_bytes : ℕ → List ℕ
opening_bytes n = attr 1 [] ++ attr 2 (le32 n)

-- and then VALUE (4)
unfoldable pub compact_bytes : List ℕ → ℕ → List ℕ
compact_bytes words n = opening_bytes n ++ attr 4 (bytes_of words)

-- or BITS (3)
unfoldable pub verbose_bytes : List ℕ → List ℕ → ℕ → List ℕ
verbose_bytes names words n = opening_bytes n ++ nest 3 (bits_bytes names (has words) n)

-- the contents of the bitset, by header flag 1
unfoldable pub contents_bytes : Bool → List ℕ → List ℕ → ℕ → List ℕ
contents_bytes compact names words n = cond compact (compact_bytes words n) (verbose_bytes names words n)

-- the bitset (2)
unfoldable pub set_bytes : Bool → List ℕ → List ℕ → ℕ → List ℕ
set_bytes compact names words n = nest 2 (contents_bytes compact names words n)
