-- Laws of ports told apart: how the loops decide it.
use Prim.Native.Nat.{ℕ, ◌≤◌, ◌<◌}
use mathlib.Core.Path.{◌≡◌, sym, ◌∙◌}
use mathlib.Core.List.{List}
use mathlib.Core.Bool.{Bool, true, false, not}
use borrow.Author.Tests.{eq-eqb, ne_eqb, not-true}
use Rattle.basics.specs.Scan.{all}
use Rattle.basics.proofs.Scan.{all-fails, all_done}
use Rattle.roll.specs.Record.{port_count, index_of, name_of}
use Rattle.roll.specs.Name.{same_name}
use Rattle.roll_rule.specs.Rule.{another, is_new, ports_distinct}
use Rattle.roll_rule.proofs.Laws.{Kept}

module _ (roll : List ℕ) (x : ℕ) (name : List ℕ) (j y : ℕ) (ey : y ≡ index_of roll j) where
  pub another-index : y ≡ x → false ≡ another roll x name j
  unfolding another
  another-index h = sym (rw (← ey, eq-eqb _ _ h))

  pub another-name : (s : List ℕ) (b : Bool) → (y ≡ x → ⊥) → s ≡ name_of roll j → b ≡ same_name s name → not b ≡ another roll x name j
  unfolding another
  another-name s b h es eb = rw (eb, ← ey, ne_eqb _ _ h, es)

pub ruleset another-laws = (another-index, another-name)

module _ (roll : List ℕ) (k x : ℕ) (name : List ℕ) (ex : x ≡ index_of roll k) (es : name ≡ name_of roll k) (j : ℕ) where
  pub new-not : (b : Bool) → j < k → b ≡ another roll x name j → not b ≡ true → false ≡ is_new roll k
  unfolding is_new
  new-not b l e q = rw (← ex, ← es) (sym (all-fails (another roll x name) k j l (sym e ∙ not-true b q)))

  pub new-done : Kept (another roll x name) j → j ≤ k → k ≤ j → true ≡ is_new roll k
  unfolding is_new
  new-done h l u = rw (← ex, ← es) (sym (all_done (another roll x name) k j h l u))

pub ruleset new-laws = (new-not, new-done)

pub distinct-is : (roll : List ℕ) (b : Bool) → b ≡ all (port_count roll) (is_new roll) → b ≡ ports_distinct roll
unfolding ports_distinct
distinct-is roll b e = e
