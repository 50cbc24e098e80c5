-- The law of the top level's policy.
use mathlib.Core.Path.{◌≡◌}
use mathlib.Core.List.{[], ◌∷◌}
use mathlib.Core.Bool.{Bool}
use Rattle.netlink.specs.declared.policy.Rule.{Rule}
use Rattle.netlink.specs.declared.policy.Rule.TheVariants.{Unlisted, Nest}
use Rattle.request.specs.Policies.{bitset_rule, top_policy}

pub top-rules : (change : Bool) (bitset : Rule) → bitset ≡ bitset_rule change
    → Unlisted ∷ Nest ∷ bitset ∷ Unlisted ∷ Unlisted ∷ Unlisted ∷ Unlisted ∷ Unlisted ∷ [] ≡ top_policy change
unfolding top_policy
top-rules change bitset e = rw e
