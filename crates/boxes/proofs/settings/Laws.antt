-- Laws of the rule of the settings.
use Prim.Native.Nat.{ℕ, ◌+◌, ◌≤◌, ◌<◌}
use mathlib.Core.Path.{◌≡◌, sym, ◌∙◌}
use mathlib.Core.List.{List}
use mathlib.Core.Bool.{Bool, true, false, not}
use lib.ListN.{length}
use borrow.Author.Tests.{eq-eqb, ne_eqb, eqb-true, not-true, not-false}
use Rattle.basics.specs.Scan.{all}
use Rattle.basics.proofs.Scan.{all_none, all_more, all-fails, all_done, all-each}
use Rattle.basics.proofs.Truth.{both_true}
use Rattle.bits.specs.Set.{none_from}
use Rattle.layout.specs.declared.Set.{Set}
use Rattle.layout.specs.declared.Set.TheVariants.{Debug, Flags}
use Rattle.layout.specs.declared.Sizes.{Sizes}
use Rattle.layout.specs.Layout.{size_of, every_set, widths_of, total_words, set_at}
use Rattle.layout.proofs.Laws.{every-each}
use Rattle.boxes.specs.Settings.{set_clear, port_clear, settings_right}

-- the words of all ports by the widths of their sets
pub words-by : (ports : ℕ) (sizes width : Sizes) (n : ℕ) → width ≡ widths_of sizes → n ≡ total_words ports (widths_of sizes) → n ≡ total_words ports width
words-by ports sizes width n ew e = rw ew e

module _ (settings : List ℕ) (ports : ℕ) (sizes : Sizes) where
  -- one set
  pub clear-set : (position : ℕ) (set : Set) (width : Sizes) (held : List ℕ) (n : ℕ) (b : Bool) → width ≡ widths_of sizes
      → held ≡ set_at settings ports width position set → n ≡ size_of sizes set → b ≡ none_from held n → b ≡ set_clear settings ports sizes position set
  unfolding set_clear
  clear-set position set width held n b ew eh en eb = eb ∙ rw (eh, ew, en)

  -- one port
  module _ (position : ℕ) (d : Bool) (ed : d ≡ set_clear settings ports sizes position Debug) where
    pub clear-not : not d ≡ true → false ≡ port_clear settings ports sizes position
    unfolding port_clear every_set
    clear-not h = sym (rw (← ed, not-true d h))

    pub clear_both : (f : Bool) → not d ≡ false → f ≡ set_clear settings ports sizes position Flags → f ≡ port_clear settings ports sizes position
    unfolding port_clear every_set
    clear_both f h ef = ef ∙ sym (rw (← ed, not-false d h))

  -- all of them
  pub all_start : all 0 (port_clear settings ports sizes) ≡ true
  all_start = all_none (port_clear settings ports sizes)

  pub all-next : (p : ℕ) (b : Bool) → all p (port_clear settings ports sizes) ≡ true → b ≡ port_clear settings ports sizes p → not b ≡ false
      → all (p + 1) (port_clear settings ports sizes) ≡ true
  all-next p b h e q = all_more (port_clear settings ports sizes) p h (sym e ∙ not-false b q)

  module _ (width : Sizes) (n : ℕ) (ew : width ≡ widths_of sizes) (en : n ≡ total_words ports width) where
    exact : n ≡ total_words ports (widths_of sizes)
    exact = rw (en, ew)

    pub right-length : (length settings ≡ n → ⊥) → false ≡ settings_right settings ports sizes
    unfolding settings_right
    right-length z = sym (rw (ne_eqb _ _ (λ q. z (q ∙ sym exact))))

    module _ (l : length settings ≡ n) where
      pub right-words : length settings ≡ total_words ports (widths_of sizes)
      right-words = l ∙ exact

      rest : settings_right settings ports sizes ≡ all ports (port_clear settings ports sizes)
      unfolding settings_right
      rest = rw (eq-eqb _ _ right-words)

      pub right-not : (p : ℕ) (b : Bool) → p < ports → b ≡ port_clear settings ports sizes p → not b ≡ true → false ≡ settings_right settings ports sizes
      right-not p b h e q = sym (rest ∙ all-fails (port_clear settings ports sizes) ports p h (sym e ∙ not-true b q))

      pub right-done : (p : ℕ) → all p (port_clear settings ports sizes) ≡ true → p ≤ ports → ports ≤ p → true ≡ settings_right settings ports sizes
      right-done p h u v = sym (rest ∙ all_done (port_clear settings ports sizes) ports p h u v)

pub ruleset port-laws = (clear-not, clear_both)

pub ruleset settings-laws = (all_start, all-next, right-length, right-words, right-not, right-done)

-- what it means
pub record Right (settings : List ℕ) (ports : ℕ) (sizes : Sizes) : Type 0 where
  pub exact : length settings ≡ total_words ports (widths_of sizes)
  pub clear : (position : ℕ) → position < ports → (set : Set) → none_from (set_at settings ports (widths_of sizes) position set) (size_of sizes set) ≡ true

pub right-means : (settings : List ℕ) (ports : ℕ) (sizes : Sizes) → settings_right settings ports sizes ≡ true → Right settings ports sizes
unfolding settings_right port_clear set_clear
right-means settings ports sizes h =
    let a = both_true _ _ h in
    record {
      exact = eqb-true _ _ a.0;
      clear = λ p l. every-each (set_clear settings ports sizes p) (all-each (port_clear settings ports sizes) ports p a.1 l);
    }
