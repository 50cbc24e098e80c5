-- What a right roll means: its ports are right, and no port has the index 0 or an empty name.
use Prim.Native.Nat.{ℕ, ◌≤◌, ◌<◌}
use mathlib.Core.Path.{◌≡◌, refl, ◌∙◌}
use mathlib.Core.List.{List}
use mathlib.Core.Bool.{true}
use native.Mathlib.Omega.{arith}
use borrow.Author.Tests.{leb-true}
use Rattle.basics.specs.Numbers.{byte_at}
use Rattle.basics.proofs.Scan.{all-each}
use Rattle.basics.proofs.Truth.{both_true}
use Rattle.roll.specs.Record.{port_count, index_of, name_of}
use Rattle.roll.specs.Name.{name_right}
use Rattle.roll.specs.Find.{found_by_index, found_by_name}
use Rattle.roll_rule.specs.Rule.{port_right, roll_right}
use Rattle.roll.proofs.name.Laws.{same_bytes, named-same, right-starts}
use Rattle.roll.proofs.find.Laws.{index_is, name-is}
use Rattle.roll_rule.proofs.Laws.{right-means}
use Rattle.std.specs.Prelude.{Option, Some, None}

-- a port whose index and name are right
pub record PortRight (roll : List ℕ) (k : ℕ) : Type 0 where
  pub positive : 1 ≤ index_of roll k
  pub small : index_of roll k ≤ 2147483647
  pub name : name_right (name_of roll k) ≡ true

module _ (roll : List ℕ) (right : roll_right roll ≡ true) where
  pub port-right : (k : ℕ) → k < port_count roll → PortRight roll k
  unfolding port_right
  port-right k l =
      let a = both_true _ _ (all-each (port_right roll) (port_count roll) k (right-means roll right).ports l) in
      let b = both_true _ _ a.1 in
      record { positive = leb-true 1 _ a.0; small = leb-true _ 2147483647 b.0; name = b.1 }

  pub zero-none : found_by_index roll 0 ≡ None
  zero-none = go (found_by_index roll 0) refl
    where
      go : (f : Option ℕ) → found_by_index roll 0 ≡ f → f ≡ None
      go None e = refl
      go (Some k) e = let i = index_is roll 0 k e in let p = (port-right k i.0).positive in absurd (omega (arith, i.1, p))

  pub empty-none : (name : List ℕ) → byte_at name 0 ≡ 0 → found_by_name roll name ≡ None
  empty-none name z = go (found_by_name roll name) refl
    where
      go : (f : Option ℕ) → found_by_name roll name ≡ f → f ≡ None
      go None e = refl
      go (Some k) e =
          let i = name-is roll name k e in
          absurd (right-starts (name_of roll k) (port-right k i.0).name (same_bytes (name_of roll k) name (named-same (name_of roll k) name i.1) 0 (omega arith) ∙ z))
