-- Request C-13, STRSET_GET: what stands at its top level, in STRINGSETS and in a STRINGSET.
use Rattle.std.specs.Prelude.{List, [], ◌∷◌}
use Rattle.netlink.specs.declared.policy.Rule.{Rule}
use Rattle.netlink.specs.declared.policy.Rule.TheVariants.{Unlisted, Nest, Number, Flag}

-- 1 header (nest); 2 STRINGSETS (nest); 3 COUNTS_ONLY (flag)
abbrev pub strset_policy : List Rule
strset_policy = Unlisted ∷ Nest ∷ Nest ∷ Flag ∷ Unlisted ∷ Unlisted ∷ Unlisted ∷ Unlisted ∷ []

-- 1 STRINGSET (nest), any number
abbrev pub string_sets_policy : List Rule
string_sets_policy = Unlisted ∷ Nest ∷ Unlisted ∷ Unlisted ∷ Unlisted ∷ Unlisted ∷ Unlisted ∷ Unlisted ∷ []

-- 1 ID u32; COUNT and STRINGS stand in replies alone
abbrev pub string_set_policy : List Rule
string_set_policy = Unlisted ∷ Number ∷ Unlisted ∷ Unlisted ∷ Unlisted ∷ Unlisted ∷ Unlisted ∷ Unlisted ∷ []
