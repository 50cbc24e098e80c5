-- Refusal 16, "no such port": where the search of the roll finds none, no port of it has the index, or the name. With `refused-exactly` (Stored), whose row
-- for 16 asks that search, a port that is in the roll is never refused by 16.
--     index-missing    by index
--     name-missing     by name
use Prim.Native.Nat.{ℕ, zero, suc, ◌≤◌, ◌<◌}
use mathlib.Core.Path.{◌≡◌, refl}
use mathlib.Core.List.{List}
use mathlib.Core.Bool.{Bool, true, false, cond}
use mathlib.Core.Logic.{⊎_elim}
use lib.Dec.{ltb}
use native.Mathlib.Omega.{arith}
use borrow.Author.Tests.{eq-eqb, ltb-true, ltb-false}
use Rattle.basics.specs.Scan.{first}
use Rattle.basics.proofs.Order.{lt-or-ge}
use Rattle.basics.proofs.Truth.{clash}
use Rattle.roll.specs.Name.{holds_name}
use Rattle.roll.specs.Record.{port_count, port_at, index_of, name_of}
use Rattle.roll.specs.Find.{has_index, has_name, find_port, found_by_index, found_by_name}
use Rattle.demands.specs.PortChecks.{no_port}
use Rattle.std.specs.Prelude.{Some, None}

module _ (f : ℕ → Bool) where
  -- the first number of which f holds is at most the bound
  first-le : (n : ℕ) → first n f ≤ n
  unfolding first
  first-le zero = omega arith
  first-le (suc n) = go (ltb (first n f) n) (f n) (first-le n)
    where
      go : (t u : Bool) → first n f ≤ n → cond t (first n f) (cond u n (suc n)) ≤ suc n
      go true u l = omega arith
      go false true l = omega arith
      go false false l = omega arith

  -- where it is the bound, f holds of no number below
  none_passed : (n k : ℕ) → first n f ≡ n → k < n → f k ≡ false
  unfolding first
  none_passed zero k e l = absurd (omega arith)
  none_passed (suc n) k e l = go (ltb (first n f) n) (f n) refl refl e (λ q h. none_passed n k q h)
    where
      go : (t u : Bool) → ltb (first n f) n ≡ t → f n ≡ u → cond t (first n f) (cond u n (suc n)) ≡ suc n → (first n f ≡ n → k < n → f k ≡ false) → f k ≡ false
      go true u et eu e rest = absurd (let x = ltb-true (first n f) n et in omega arith)
      go false true et eu e rest = absurd (omega arith)
      go false false et eu e rest =
          let x = ltb-false (first n f) n et in
          let y = first-le n in
          ⊎_elim (λ (h : k < n). rest (omega arith) h) (λ (h : n ≤ k). let is : k ≡ n = omega arith in rw is eu) (lt-or-ge k n)

  none_found : (n : ℕ) → no_port (find_port n f) ≡ true → (k : ℕ) → k < n → f k ≡ false
  unfolding find_port no_port
  none_found n e k l = go (ltb (first n f) n) refl e
    where
      go : (t : Bool) → ltb (first n f) n ≡ t → no_port (cond t (Some (first n f)) None) ≡ true → f k ≡ false
      go true et e = absurd (clash e refl)
      go false et e = let x = ltb-false (first n f) n et in let y = first-le n in none_passed n k (omega arith) l

module _ (roll : List ℕ) (k : ℕ) (inside : k < port_count roll) where
  pub index-missing : (x : ℕ) → no_port (found_by_index roll x) ≡ true → (port_at roll k).index ≡ x → ⊥
  unfolding found_by_index has_index index_of
  index-missing x e q = clash (eq-eqb (port_at roll k).index x q) (none_found (has_index roll x) (port_count roll) e k inside)

  pub name-missing : (name : List ℕ) → no_port (found_by_name roll name) ≡ true → holds_name (port_at roll k).name name ≡ false
  unfolding found_by_name has_name name_of
  name-missing name e = none_found (has_name roll name) (port_count roll) e k inside
