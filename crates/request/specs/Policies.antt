-- Document 01, "Sizes on the wire", the table of types: what stands at the top level of a request, and in its header.
use Rattle.std.specs.Prelude.{Bool, cond, List, [], ◌∷◌}
use Rattle.netlink.specs.declared.policy.Rule.{Rule}
use Rattle.netlink.specs.declared.policy.Rule.TheVariants.{Unlisted, Nest, Number, Name}

-- a bitset is a nest in SET commands only
abbrev pub bitset_rule : Bool → Rule
bitset_rule change = cond change Nest Unlisted

-- 1 header (nest); 2 bitset
unfoldable pub top_policy : Bool → List Rule
top_policy change = Unlisted ∷ Nest ∷ bitset_rule change ∷ Unlisted ∷ Unlisted ∷ Unlisted ∷ Unlisted ∷ Unlisted ∷ []

-- 1 index u32; 2 name of 1 to 16 bytes; 3 flags u32
abbrev pub header_policy : List Rule
header_policy = Unlisted ∷ Number ∷ Name 16 ∷ Number ∷ Unlisted ∷ Unlisted ∷ Unlisted ∷ Unlisted ∷ []
