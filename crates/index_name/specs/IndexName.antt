-- Document 01, "Replies": "index, name" of a port, "INDEX then NAME where the bit has one": both are attributes 1 and 2 of their nest.
use Rattle.std.specs.Prelude.{ℕ, cond, List, [], ◌++◌, eqb}
use Rattle.basics.specs.Numbers.{le32}
use Rattle.netlink.specs.Policy.{nul_at}
use Rattle.netlink_write.specs.Attributes.{attr, nest, name_bytes}

-- attribute 2, the name, where there is one
unfoldable pub name_if_any : List ℕ → List ℕ
name_if_any name = cond (eqb (nul_at name) 0) [] (attr 2 (name_bytes name))

-- attribute 1, the index, then the name
unfoldable pub index_and_name : ℕ → List ℕ → List ℕ
index_and_name index name = attr 1 (le32 index) ++ name_if_any name

-- the nest of the two, of any type
unfoldable pub index_nest : ℕ → ℕ → List ℕ → List ℕ
index_nest kind index name = nest kind (index_and_name index name)
