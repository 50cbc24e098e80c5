-- Laws of what a STRSET_GET asks for: one for each return.
use mathlib.Core.Path.{◌≡◌, sym}
use mathlib.Core.Bool.{Bool, true, false}
use Rattle.layout.specs.declared.Set.{Set}
use Rattle.layout.specs.declared.Set.TheVariants.{Debug, Flags}
use Rattle.strset_request.specs.Asked.{or_default}
use Rattle.strset_request.specs.declared.list.Sets.{Sets}
use Rattle.strset_request.specs.declared.list.Sets.TheVariants.{Nothing, One, Both}

module _ (sets : Sets) (named : Bool) where
  pub default-flags : sets ≡ Nothing → named ≡ true → One Flags ≡ or_default sets named
  unfolding or_default
  default-flags q n = sym (rw (q, n))

  pub default-debug : sets ≡ Nothing → named ≡ false → One Debug ≡ or_default sets named
  unfolding or_default
  default-debug q n = sym (rw (q, n))

  pub default-one : (set : Set) → sets ≡ One set → One set ≡ or_default sets named
  unfolding or_default
  default-one set q = sym (rw q)

  pub default-both : (first : Set) → sets ≡ Both first → Both first ≡ or_default sets named
  unfolding or_default
  default-both first q = sym (rw q)

pub ruleset default-laws = (default-flags, default-debug, default-one, default-both)
