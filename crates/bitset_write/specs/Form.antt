-- Document 01, "Bitsets", the normal form: "contents of a compact bitset: SIZE N, VALUE W words, MASK W words, in that order".
use Rattle.std.specs.Prelude.{ℕ, List, ◌++◌, take}
use Rattle.basics.specs.Numbers.{le32}
use Rattle.bits.specs.Set.{words_for}
use Rattle.word_bytes.specs.Bytes.{bytes_of}
use Rattle.netlink_write.specs.Attributes.{attr}

-- SIZE, VALUE, MASK
unfoldable pub parts_bytes : ℕ → List ℕ → List ℕ → List ℕ
parts_bytes n value mask = attr 2 (le32 n) ++ (attr 4 (bytes_of value) ++ attr 5 (bytes_of mask))

-- the bytes of a form of which the first W words count
unfoldable pub form_bytes : ℕ → List ℕ → List ℕ → List ℕ
form_bytes n mask value = parts_bytes n (take (words_for n) value) (take (words_for n) mask)
