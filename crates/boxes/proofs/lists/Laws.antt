-- Laws of the name lists.
use Prim.Native.Nat.{ℕ}
use mathlib.Core.Path.{◌≡◌, sym, ◌∙◌}
use mathlib.Core.Bool.{Bool, true, false, not}
use borrow.Author.Tests.{not-true, not-false}
use Rattle.basics.proofs.Truth.{both_true}
use Rattle.entries.specs.Entry.{count}
use Rattle.names.specs.Rule.{names_right}
use Rattle.names.proofs.Rules as N
use Rattle.layout.specs.declared.Set.{Set}
use Rattle.layout.specs.declared.Set.TheVariants.{Debug, Flags}
use Rattle.layout.specs.Layout.{Names, list_of, every_set, of_lists}
use Rattle.layout.specs.AtMost.{AtMost}
use Rattle.boxes.specs.Rule.{lists_right}

pub sizes-are : (names : Names) (debug flags : ℕ) → debug ≡ count names.debug → flags ≡ count names.flags
    → record { debug = debug; flags = flags } ≡ of_lists count names
sizes-are names debug flags ed ef = rw (ed, ef)

module _ (names : Names) (d : Bool) (ed : d ≡ names_right names.debug) where
  pub debug-wrong : not d ≡ true → false ≡ lists_right names
  unfolding lists_right every_set list_of
  debug-wrong h = sym (rw (← ed, not-true d h))

  pub flags-decide : (f : Bool) → not d ≡ false → f ≡ names_right names.flags → f ≡ lists_right names
  unfolding lists_right every_set list_of
  flags-decide f h ef = ef ∙ sym (rw (← ed, not-false d h))

pub ruleset lists-laws = (debug-wrong, flags-decide)

-- what it means
pub lists-each : (names : Names) → lists_right names ≡ true → (set : Set) → names_right (list_of names set) ≡ true
unfolding lists_right every_set list_of
lists-each names h Debug = (both_true (names_right names.debug) (names_right names.flags) h).0
lists-each names h Flags = (both_true (names_right names.debug) (names_right names.flags) h).1

pub lists-few : (names : Names) → lists_right names ≡ true → AtMost 512 (of_lists count names)
unfolding list_of
lists-few names h = record { debug = (N.right-means names.debug (lists-each names h Debug)).few; flags = (N.right-means names.flags (lists-each names h Flags)).few }
