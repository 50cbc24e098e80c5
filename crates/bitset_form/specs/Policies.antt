-- Document 01, "Sizes on the wire", the table of types: what stands in a bitset, in its BITS and in a BIT.
use Rattle.std.specs.Prelude.{List, [], ◌∷◌}
use Rattle.netlink.specs.declared.policy.Rule.{Rule}
use Rattle.netlink.specs.declared.policy.Rule.TheVariants.{Unlisted, Nest, Number, Flag, Name, Bytes}

-- 1 NOMASK flag; 2 SIZE u32; 3 BITS nest; 4 VALUE; 5 MASK
abbrev pub bitset_policy : List Rule
bitset_policy = Unlisted ∷ Flag ∷ Number ∷ Nest ∷ Bytes ∷ Bytes ∷ Unlisted ∷ Unlisted ∷ []

-- 1 BIT nest, any number
abbrev pub bits_policy : List Rule
bits_policy = Unlisted ∷ Nest ∷ Unlisted ∷ Unlisted ∷ Unlisted ∷ Unlisted ∷ Unlisted ∷ Unlisted ∷ []

-- 1 INDEX u32; 2 NAME of 1 to 32 bytes; 3 VALUE flag
abbrev pub bit_policy : List Rule
bit_policy = Unlisted ∷ Number ∷ Name 32 ∷ Flag ∷ Unlisted ∷ Unlisted ∷ Unlisted ∷ Unlisted ∷ []
