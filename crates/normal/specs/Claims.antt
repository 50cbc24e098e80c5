-- What the theorems of demand 3 speak of.
use Rattle.std.specs.Prelude.{ℕ, ◌≤◌, ◌≡◌, Bool, true, List, ◌++◌, length}
use Rattle.basics.specs.Numbers.{le32}
use Rattle.bits.specs.Set.{has, words_of, words_for}
use Rattle.bits.specs.Change.{Same, Below, Within, merge}
use Rattle.word_bytes.specs.Bytes.{bytes_of}
use Rattle.names.specs.Rule.{names_right}
use Rattle.netlink_write.specs.Attributes.{attr}
use Rattle.bitset_form.specs.Bitset.{Bitset, effect, mask_of, value_of}
use Rattle.bitset_form.specs.Bitset.Reading.{accepted}
use Rattle.bitset.specs.Judge.{bitset_reading}

-- "two bitsets change it alike if both make the same set of it", for every starting set of bits below N
abbrev pub ActAlike : ℕ → Bitset → Bitset → Type 0
ActAlike n b c = (s : ℕ → Bool) → Below n s → Same (effect b s) (effect c s)

-- the W words of a normal form's MASK
abbrev pub mask_words : ℕ → Bitset → List ℕ
mask_words n b = words_of (words_for n) (mask_of n b)

-- the W words of a normal form's VALUE
abbrev pub value_words : ℕ → Bitset → List ℕ
value_words n b = words_of (words_for n) (value_of b)

-- the bytes are "SIZE N, VALUE W words, MASK W words, in that order": MASK holds the mask of the bitset, VALUE the values that these bits get,
-- whatever the starting set, and every other bit of both is 0: MASK has none from N on, VALUE none outside MASK
pub record NormalBytes (n : ℕ) (b : Bitset) (bytes : List ℕ) : Type 0 where
  pub parts : bytes ≡ attr 2 (le32 n) ++ (attr 4 (bytes_of (value_words n b)) ++ attr 5 (bytes_of (mask_words n b)))
  pub value-length : length (value_words n b) ≡ words_for n
  pub mask-length : length (mask_words n b) ≡ words_for n
  pub mask-holds : Same (has (mask_words n b)) (mask_of n b)
  pub value-holds : Same (has (value_words n b)) (value_of b)
  pub values-made : (s : ℕ → Bool) → Below n s → Same (effect b s) (merge (has (mask_words n b)) (has (value_words n b)) s)
  pub mask-ends : Below n (has (mask_words n b))
  pub value-inside : Within (has (value_words n b)) (has (mask_words n b))

-- the list breaks no rule, the page has at least 144 bytes, the contents at most 32,768, and they read as a bitset
pub record Accepts (contents names : List ℕ) (room : ℕ) : Type 0 where
  pub right : names_right names ≡ true
  pub page : 144 ≤ room
  pub short : length contents ≤ 32768
  pub bitset : Bitset
  pub reads : bitset_reading contents 0 names ≡ accepted bitset
