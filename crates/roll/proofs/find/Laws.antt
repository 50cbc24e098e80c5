-- Laws of the search for a port: how it goes on and ends, and what a port that it finds is.
use Prim.Native.Nat.{ℕ, ◌+◌, ◌<◌, ◌≤◌}
use mathlib.Core.Path.{◌≡◌, refl, sym, ap, ◌∙◌}
use mathlib.Core.List.{List}
use mathlib.Core.Bool.{Bool, true, false, cond}
use lib.Dec.{ltb}
use native.Mathlib.Omega.{arith}
use borrow.Author.Tests.{eq-eqb, ne_eqb, eqb-true, lt-ltb, le-ltb, ltb-true}
use Rattle.basics.specs.Numbers.{u32_at}
use Rattle.basics.specs.Scan.{first}
use Rattle.basics.proofs.Scan.{first-none, first_more, first-at, first-is}
use Rattle.basics.proofs.Truth.{false_of}
use Rattle.roll.specs.Record.{port_count, index_of, name_of}
use Rattle.roll.specs.Name.{holds_name}
use Rattle.roll.proofs.name.Laws.{four_same, named-same}
use Rattle.roll.specs.Find.{has_index, has_name, find_port, found_by_index, found_by_name}
use Rattle.std.specs.Prelude.{Some, None}

-- the first k positions are passed
abbrev pub Passed : (ℕ → Bool) → ℕ → Type 0
Passed f k = first k f ≡ k

module _ (f : ℕ → Bool) where
  find-start : Passed f 0
  find-start = first-none f

  find-here : (n k : ℕ) → k < n → Passed f k → f k ≡ true → Some k ≡ find_port n f
  unfolding find_port
  find-here n k l h e = let a = first-at f n k l h e in sym (rw (a, lt-ltb k n l))

  find_none : (n k : ℕ) → Passed f k → k ≤ n → n ≤ k → None ≡ find_port n f
  unfolding find_port
  find_none n k h l u = let e : k ≡ n = omega arith in let a : first n f ≡ n = rw e at h in sym (rw (a, le-ltb n n (omega arith)))

  find-is : (n k : ℕ) → find_port n f ≡ Some k → (k < n) × (f k ≡ true)
  unfolding find_port
  find-is n k h = go (ltb (first n f) n) refl h
    where
      go : (t : Bool) → ltb (first n f) n ≡ t → cond t (Some (first n f)) None ≡ Some k → (k < n) × (f k ≡ true)
      go true e h = let l = ltb-true (first n f) n e in let q : first n f ≡ k = cc in (rw q at l, rw q at (first-is f n l))
      go false e h = absurd (let z : ◌≡◌ {A = ℕ} 0 1 = cc in omega arith)

-- by index
module _ (roll : List ℕ) (x : ℕ) where
  pub index-start : Passed (has_index roll x) 0
  index-start = find-start (has_index roll x)

  module _ (k : ℕ) (h : Passed (has_index roll x) k) where
    pub index-next : (y : ℕ) → y ≡ index_of roll k → (y ≡ x → ⊥) → Passed (has_index roll x) (k + 1)
    unfolding has_index
    index-next y ey n = first_more (has_index roll x) k h (ne_eqb _ _ (λ (p : index_of roll k ≡ x). n (ey ∙ p)))

    pub index-here : (y : ℕ) → k < port_count roll → y ≡ index_of roll k → y ≡ x → Some k ≡ found_by_index roll x
    unfolding found_by_index has_index
    index-here y l ey q = find-here (has_index roll x) (port_count roll) k l h (eq-eqb _ _ (sym ey ∙ q))

    pub index-none : k ≤ port_count roll → port_count roll ≤ k → None ≡ found_by_index roll x
    unfolding found_by_index
    index-none l u = find_none (has_index roll x) (port_count roll) k h l u

  pub index_is : (k : ℕ) → found_by_index roll x ≡ Some k → (k < port_count roll) × (index_of roll k ≡ x)
  unfolding found_by_index has_index
  index_is k e = let r = find-is (has_index roll x) (port_count roll) k e in (r.0, eqb-true _ _ r.1)

pub ruleset index-laws = (index-start, index-next, index-here, index-none)

-- whether a port has a name
module _ (roll name : List ℕ) (k : ℕ) where
  pub probe-differs : (x y : ℕ) → x ≡ u32_at (name_of roll k) 8 → y ≡ u32_at name 8 → (x ≡ y → ⊥) → false ≡ has_name roll name k
  unfolding has_name
  probe-differs x y ex ey n =
      sym (false_of (holds_name (name_of roll k) name) (λ h. n (ex ∙ four_same (name_of roll k) name 8 (omega arith) (named-same (name_of roll k) name h) ∙ sym ey)))

  pub probe-holds : (s : List ℕ) (b : Bool) → s ≡ name_of roll k → b ≡ holds_name s name → b ≡ has_name roll name k
  unfolding has_name
  probe-holds s b es eb = eb ∙ ap (λ (z : List ℕ). holds_name z name) es

pub ruleset has-name-laws = (probe-differs, probe-holds)

-- by name
module _ (roll name : List ℕ) where
  pub name-start : Passed (has_name roll name) 0
  name-start = find-start (has_name roll name)

  module _ (k : ℕ) (h : Passed (has_name roll name) k) where
    module _ (b : Bool) (eb : b ≡ has_name roll name k) where
      pub name-next : b ≡ false → Passed (has_name roll name) (k + 1)
      name-next q = first_more (has_name roll name) k h (sym eb ∙ q)

      pub name-here : k < port_count roll → b ≡ true → Some k ≡ found_by_name roll name
      unfolding found_by_name
      name-here l q = find-here (has_name roll name) (port_count roll) k l h (sym eb ∙ q)

    pub name-none : k ≤ port_count roll → port_count roll ≤ k → None ≡ found_by_name roll name
    unfolding found_by_name
    name-none l u = find_none (has_name roll name) (port_count roll) k h l u

  pub name-is : (k : ℕ) → found_by_name roll name ≡ Some k → (k < port_count roll) × (holds_name (name_of roll k) name ≡ true)
  unfolding found_by_name has_name
  name-is k e = find-is (has_name roll name) (port_count roll) k e

pub ruleset name-laws = (name-start, name-next, name-here, name-none)
