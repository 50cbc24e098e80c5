-- Request C-13, the reply to STRSET_GET: STRINGS, "every entry goes out, those without a name as one NUL".
use Rattle.std.specs.Prelude.{ℕ, zero, suc, List, [], ◌++◌}
use Rattle.basics.specs.Numbers.{le32}
use Rattle.entries.specs.Entry.{entry_at}
use Rattle.netlink_write.specs.Attributes.{attr, nest, name_bytes}

-- INDEX (1), then VALUE (2), the name with one NUL
unfoldable pub index_and_value : ℕ → List ℕ → List ℕ
index_and_value index name = attr 1 (le32 index) ++ attr 2 (name_bytes name)

-- the STRING (1) of an entry of a list
unfoldable pub string_bytes : List ℕ → ℕ → List ℕ
string_bytes names i = nest 1 (index_and_value i (entry_at names i))

-- the STRINGs of the entries below n, rising
unfoldable pub strings_bytes : List ℕ → ℕ → List ℕ
strings_bytes names zero = []
strings_bytes names (suc n) = strings_bytes names n ++ string_bytes names n
