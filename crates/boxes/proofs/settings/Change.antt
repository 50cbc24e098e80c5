-- Settings stay right where one set of one port is changed to a set below its N.
use Prim.Native.Nat.{ℕ, ◌≤◌, ◌<◌}
use mathlib.Core.Path.{◌≡◌, refl, ap, ◌∙◌}
use mathlib.Core.List.{List}
use mathlib.Core.Bool.{true}
use mathlib.Core.Logic.{◌⊎◌, inl, inr, ⊎_elim}
use native.Mathlib.Omega.{arith}
use lib.ListN.{length}
use borrow.Author.Tests.{eq-eqb}
use Rattle.basics.specs.Put.{splice}
use Rattle.basics.proofs.Order.{lt-or-ge}
use Rattle.basics.proofs.Scan.{all_of}
use Rattle.bits.specs.Set.{none_from}
use Rattle.layout.specs.declared.Set.{Set}
use Rattle.layout.specs.declared.Set.TheVariants.{Debug, Flags}
use Rattle.layout.specs.declared.Sizes.{Sizes}
use Rattle.layout.specs.Layout.{size_of, widths_of, set_place}
use Rattle.layout.proofs.Laws.{each-every}
use Rattle.boxes.specs.Settings.{set_clear, port_clear, settings_right}
use Rattle.layout.proofs.Kept.{change-length, change-own, change-other}
use Rattle.boxes.proofs.settings.Laws.{Right, right-means}

-- two sets are the same or not
same_set : (s t : Set) → (s ≡ t) ⊎ (s ≡ t → ⊥)
same_set Debug Debug = inl refl
same_set Debug Flags = inr (λ e. let z : ◌≡◌ {A = ℕ} 0 1 = cc in omega arith)
same_set Flags Debug = inr (λ e. let z : ◌≡◌ {A = ℕ} 0 1 = cc in omega arith)
same_set Flags Flags = inl refl

-- and two numbers
same_number : (p q : ℕ) → (p ≡ q) ⊎ (p ≡ q → ⊥)
same_number p q =
    ⊎_elim
    (λ (h : p < q). inr (λ (e : p ≡ q). omega arith))
    (λ (h : q ≤ p). ⊎_elim (λ (l : q < p). inr (λ (e : p ≡ q). omega arith)) (λ (l : p ≤ q). inl (omega arith)) (lt-or-ge q p))
    (lt-or-ge p q)

module _ (settings : List ℕ) (ports : ℕ) (sizes : Sizes) (right : settings_right settings ports sizes ≡ true) (position : ℕ) (h : position < ports) (set : Set)
    (new : List ℕ) (fits : length new ≡ size_of (widths_of sizes) set) (clear : none_from new (size_of sizes set) ≡ true) where
  abbrev changed : List ℕ
  changed = splice (set_place ports (widths_of sizes) position set) settings new

  means : Right settings ports sizes
  means = right-means settings ports sizes right

  other-clear : (p : ℕ) (s : Set) → p < ports → (position ≡ p → set ≡ s → ⊥) → set_clear changed ports sizes p s ≡ true
  unfolding set_clear
  other-clear p s l n =
      ap (λ (x : List ℕ). none_from x (size_of sizes s)) (change-other settings ports (widths_of sizes) means.exact position h set new fits p s l n)
      ∙ means.clear p l s

  own-clear : (p : ℕ) (s : Set) → position ≡ p → set ≡ s → set_clear changed ports sizes p s ≡ true
  unfolding set_clear
  own-clear p s ep es =
      rw (← ep, ← es) (ap (λ (x : List ℕ). none_from x (size_of sizes set)) (change-own settings ports (widths_of sizes) means.exact position h set new fits) ∙ clear)

  each-clear : (p : ℕ) → p < ports → (s : Set) → set_clear changed ports sizes p s ≡ true
  each-clear p l s =
      ⊎_elim
      (λ ep. ⊎_elim (λ es. own-clear p s ep es) (λ ns. other-clear p s l (λ e f. ns f)) (same_set set s))
      (λ np. other-clear p s l (λ e f. np e))
      (same_number position p)

  port-clear : (p : ℕ) → p < ports → port_clear changed ports sizes p ≡ true
  unfolding port_clear
  port-clear p l = each-every (set_clear changed ports sizes p) (each-clear p l)

  pub change-right : settings_right changed ports sizes ≡ true
  unfolding settings_right
  change-right =
      rw
      (eq-eqb _ _ (change-length settings ports (widths_of sizes) means.exact position h set new fits ∙ means.exact), all_of (port_clear changed ports sizes) ports port-clear)
