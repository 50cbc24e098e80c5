-- Laws of the rule: how the loops over the ports decide it, and what a right roll gives.
use Prim.Native.Nat.{ℕ, ◌+◌, ◌≤◌, ◌<◌}
use mathlib.Core.Path.{◌≡◌, sym, ◌∙◌}
use mathlib.Core.List.{List}
use mathlib.Core.Bool.{Bool, true, false, ◌&&◌, not}
use native.Mathlib.Omega.{arith}
use borrow.Author.Tests.{le-leb, lt-leb, lt-ltb, le-ltb, ltb-true, not-true, not-false}
use Rattle.basics.specs.Scan.{all}
use Rattle.basics.proofs.Scan.{all_none, all_more, all-fails, all_done}
use Rattle.basics.proofs.Truth.{both_true}
use Rattle.roll.specs.Record.{port_count, index_of, name_of, ports_listed}
use Rattle.roll.specs.Name.{name_right}
use Rattle.roll.specs.Table.{Tabled, TableRead}
use lib.ListN.{length}
use Rattle.roll.proofs.table.Laws.{listed-some}
use Rattle.roll_rule.specs.Rule.{port_right, ports_distinct, roll_right}

-- a test of every port of a table
abbrev pub Kept : (ℕ → Bool) → ℕ → Type 0
Kept f k = all k f ≡ true

module _ (f : ℕ → Bool) where
  pub each_start : Kept f 0
  each_start = all_none f

  module _ (k : ℕ) (h : Kept f k) where
    pub each_next : (b : Bool) → b ≡ f k → not b ≡ false → Kept f (k + 1)
    each_next b e q = all_more f k h (sym e ∙ not-false b q)

    module _ (n : ℕ) where
      pub each-not : (b : Bool) → k < n → b ≡ f k → not b ≡ true → false ≡ all n f
      each-not b l e q = sym (all-fails f n k l (sym e ∙ not-true b q))

      pub each-done : k ≤ n → n ≤ k → true ≡ all n f
      each-done l u = sym (all_done f n k h l u)

pub ruleset each-laws = (each_start, each_next, each-not, each-done)

-- one port
module _ (roll : List ℕ) (k x : ℕ) (ex : x ≡ index_of roll k) where
  pub port-low : x < 1 → false ≡ port_right roll k
  unfolding port_right
  port-low h = sym (rw (← ex, lt-leb _ _ h))

  module _ (l : 1 ≤ x) where
    pub port-high : 2147483647 < x → false ≡ port_right roll k
    unfolding port_right
    port-high h = sym (rw (← ex, le-leb _ _ l, lt-leb _ _ h))

    pub port-name : (s : List ℕ) (b : Bool) → x ≤ 2147483647 → s ≡ name_of roll k → b ≡ name_right s → b ≡ port_right roll k
    unfolding port_right
    port-name s b h es eb = eb ∙ sym (rw (← ex, le-leb _ _ l, le-leb _ _ h, ← es))

pub ruleset port-laws = (port-low, port-high, port-name)

-- the roll
module _ (roll : List ℕ) (t : List ℕ) (r : TableRead roll t) where
  pub roll-unlisted : length t < 1 → false ≡ roll_right roll
  unfolding roll_right
  roll-unlisted h = sym (rw (← r.told, le-ltb 0 (length t) (omega arith)))

  module _ (h : 1 ≤ length t) where
    pub roll-tabled : Tabled roll t
    roll-tabled = r.held (omega arith)

    module _ (b : Bool) (eb : b ≡ all (port_count roll) (port_right roll)) where
      rest : roll_right roll ≡ b && ports_distinct roll
      unfolding roll_right
      rest = rw (← r.told, lt-ltb 0 (length t) (omega arith), eb)

      pub roll-port : not b ≡ true → false ≡ roll_right roll
      roll-port q = sym (rest ∙ rw (not-true b q))

      pub roll-rest : (d : Bool) → not b ≡ false → d ≡ ports_distinct roll → d ≡ roll_right roll
      roll-rest d q ed = ed ∙ sym (rest ∙ rw (not-false b q))

pub ruleset roll-laws = (roll-unlisted, roll-tabled, roll-port, roll-rest)

-- what a right roll gives
pub record Right (roll : List ℕ) : Type 0 where
  pub listed : ports_listed roll ≡ true
  pub some : 1 ≤ port_count roll
  pub few : port_count roll ≤ 64
  pub ports : all (port_count roll) (port_right roll) ≡ true
  pub apart : ports_distinct roll ≡ true

pub right-means : (roll : List ℕ) → roll_right roll ≡ true → Right roll
unfolding roll_right
right-means roll h =
    let a = both_true _ _ h in
    let b = both_true _ _ a.1 in
    let c = listed-some roll a.0 in
    record { listed = a.0; some = c.1; few = c.2; ports = b.0; apart = b.1 }

-- the table of a right roll holds its ports
pub right-tabled : (roll t : List ℕ) → TableRead roll t → roll_right roll ≡ true → Tabled roll t
right-tabled roll t r h = r.held (ltb-true 0 (length t) (r.told ∙ (right-means roll h).listed))
