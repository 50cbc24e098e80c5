-- Document 01, "Sizes on the wire", and request C-13: the table of types said a second time, parent by parent.
use Rattle.std.specs.Prelude.{ℕ, ◌≡◌, List, [], ◌∷◌, true, false, cond, eqb}
use Rattle.netlink.specs.Policy.{rule_of}
use Rattle.netlink.specs.declared.policy.Rule.{Rule}
use Rattle.netlink.specs.declared.policy.Rule.TheVariants.{Unlisted, Nest, Number, Flag, Name, Bytes}
use Rattle.request.specs.Policies.{top_policy, header_policy}
use Rattle.bitset_form.specs.Policies.{bitset_policy, bits_policy, bit_policy}
use Rattle.strset_request.specs.Policies.{strset_policy, string_sets_policy, string_set_policy}

-- a type of a parent, and the rule of its payload
pub record TypeRow : Type 0 where
  pub kind : ℕ
  pub rule : Rule

-- of these parts
abbrev pub type_row : ℕ → Rule → TypeRow
type_row kind rule = record { kind = kind; rule = rule }

-- the rule of a type that stands in some rows; every other type is not listed
unfoldable pub rule_in : List TypeRow → ℕ → Rule
rule_in [] kind = Unlisted
rule_in (row ∷ rows) kind = cond (eqb row.kind kind) row.rule (rule_in rows kind)

-- a parent lists the types of these rows, and no other
abbrev pub ListsTypes : List Rule → List TypeRow → Type 0
ListsTypes policy rows = (kind : ℕ) → rule_of policy kind ≡ rule_in rows kind

-- the table, with the names that document 01 and the request have for the types
pub record TypeTable : Type 0 where
  -- header
  pub get-top : ListsTypes (top_policy false) (type_row 1 Nest ∷ [])
  -- header, bitset
  pub set-top : ListsTypes (top_policy true) (type_row 1 Nest ∷ type_row 2 Nest ∷ [])
  -- header, STRINGSETS, COUNTS_ONLY
  pub strset-top : ListsTypes strset_policy (type_row 1 Nest ∷ type_row 2 Nest ∷ type_row 3 Flag ∷ [])
  -- index, name, flags
  pub header : ListsTypes header_policy (type_row 1 Number ∷ type_row 2 (Name 16) ∷ type_row 3 Number ∷ [])
  -- NOMASK, SIZE, BITS, VALUE, MASK
  pub bitset : ListsTypes bitset_policy (type_row 1 Flag ∷ type_row 2 Number ∷ type_row 3 Nest ∷ type_row 4 Bytes ∷ type_row 5 Bytes ∷ [])
  -- BIT
  pub bits : ListsTypes bits_policy (type_row 1 Nest ∷ [])
  -- INDEX, NAME, VALUE
  pub bit : ListsTypes bit_policy (type_row 1 Number ∷ type_row 2 (Name 32) ∷ type_row 3 Flag ∷ [])
  -- STRINGSET
  pub string-sets : ListsTypes string_sets_policy (type_row 1 Nest ∷ [])
  -- ID; "COUNT and STRINGS are not listed in a request"
  pub string-set : ListsTypes string_set_policy (type_row 1 Number ∷ [])
