-- No promise rests on this file: a name behind its attribute's header, with its NUL and the padding, as it is written word by word.
use Rattle.std.specs.Prelude.{ℕ, ◌-◌, ◌%◌, ◌≤◌, ◌≡◌, List, ◌++◌, length, take, replicate}
use Rattle.basics.specs.Put.{put}
use Rattle.netlink.specs.Policy.{nul_at}
use Rattle.netlink.specs.NulSearch.{NulFrom}

-- the first k bytes, and NULs up to four
unfoldable pub padded_word : ℕ → List ℕ → List ℕ
padded_word k s = take k s ++ replicate (4 - k) 0

-- the bytes before the first NUL, and one to four NULs up to a whole number of words
unfoldable pub padded_name : List ℕ → List ℕ
padded_name name = take (nul_at name) name ++ replicate (4 - nul_at name % 4) 0

-- a name's first bytes are copied: whole words, and no NUL among them
pub record Copied (name before after : List ℕ) (at : ℕ) : Type 0 where
  pub within : at ≤ length name
  pub whole : at % 4 ≡ 0
  pub free : NulFrom name at
  pub page : after ≡ put before (take at name)
