-- Request C-13, the reply to STRSET_GET: one STRINGSET for each set that is asked for, in order.
use Rattle.std.specs.Prelude.{ℕ, Bool, cond, List, [], ◌++◌}
use Rattle.basics.specs.Numbers.{le32}
use Rattle.entries.specs.Entry.{count}
use Rattle.netlink_write.specs.Attributes.{attr, nest}
use Rattle.layout.specs.Layout.{Names, list_of}
use Rattle.layout.specs.declared.Set.{Set}
use Rattle.layout.specs.declared.Set.TheVariants.{Debug, Flags}
use Rattle.strset_request.specs.Set.{id_of}
use Rattle.strset_request.specs.declared.list.Sets.{Sets}
use Rattle.strset_request.specs.declared.list.Sets.TheVariants.{Nothing, One, Both}
use Rattle.strset_reply.specs.Strings.{strings_bytes}

-- "COUNTS_ONLY drops STRINGS" (3)
unfoldable pub strings_if : Bool → List ℕ → List ℕ
strings_if counts names = cond counts [] (nest 3 (strings_bytes names (count names)))

-- ID (1), COUNT (2), the entries of the list, then STRINGS
unfoldable pub set_contents : Bool → ℕ → List ℕ → List ℕ
set_contents counts id names = attr 1 (le32 id) ++ (attr 2 (le32 (count names)) ++ strings_if counts names)

-- the STRINGSET (1) of a set
unfoldable pub string_set : Bool → Names → Set → List ℕ
string_set counts names set = nest 1 (set_contents counts (id_of set) (list_of names set))

-- the other set
unfoldable pub other_set : Set → Set
other_set Debug = Flags
other_set Flags = Debug

-- the STRINGSETs of the sets that are asked for
unfoldable pub sets_bytes : Bool → Names → Sets → List ℕ
sets_bytes counts names Nothing = []
sets_bytes counts names (One set) = string_set counts names set
sets_bytes counts names (Both first) = string_set counts names first ++ string_set counts names (other_set first)
