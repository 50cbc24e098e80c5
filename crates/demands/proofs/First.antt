-- The first check that does not pass: how a definition's tests line up with it, and what it means.
use mathlib.Core.Path.{◌≡◌, refl}
use mathlib.Core.List.{List, [], ◌∷◌, ◌++◌}
use mathlib.Core.Bool.{Bool, true, false, cond}
use Prim.Native.Nat.{ℕ}
use native.Mathlib.Omega.{arith}
use Rattle.netlink.specs.declared.policy.Fault.{Fault}
use Rattle.netlink.specs.declared.walk.Stop.{Stop}
use Rattle.netlink.specs.declared.walk.Stop.TheVariants.{Whole, At}
use Rattle.refusal.specs.Refusal.{of_fault}
use Rattle.refusal.specs.declared.Refusal.{Refusal}
use Rattle.response.specs.declared.Kind.{Kind}
use Rattle.response.specs.declared.Kind.TheVariants.{End, Skipped, Done, Refused}
use Rattle.demands.specs.Check.{Check, refuse_if, walks, first_kind, AllPass, FirstIs}
use Rattle.demands.specs.Check.Check.{passes, refuses, ends, skips}
use Rattle.demands.specs.Check.AllPass.{none, next}
use Rattle.demands.specs.Check.FirstIs.{here, later}

-- a test of a definition is the first check, and what comes after it the others
module _ {A : Type 0} (kind : A → Kind) (last : Kind) where
  pub stop_step : (t : Bool) (check : Check) (a x : A) (checks : List Check) → kind a ≡ first_kind last (check ∷ checks) → kind x ≡ first_kind last checks
      → kind (cond t a x) ≡ first_kind last (cond t check passes ∷ checks)
  unfolding first_kind
  stop_step true check a x checks h e = h
  stop_step false check a x checks h e = e

  pub step : (t : Bool) (why : Refusal) (a x : A) (checks : List Check) → kind a ≡ Refused why → kind x ≡ first_kind last checks
      → kind (cond t a x) ≡ first_kind last (refuse_if t why ∷ checks)
  unfolding refuse_if first_kind
  step t why a x checks h e = stop_step t (refuses why) a x checks h e

  -- the same, where what comes after it rests on its passing
  pub passed-step : (t : Bool) (why : Refusal) (a x : A) (checks : List Check) → kind a ≡ Refused why → (t ≡ false → kind x ≡ first_kind last checks)
      → kind (cond t a x) ≡ first_kind last (refuse_if t why ∷ checks)
  unfolding refuse_if first_kind
  passed-step true why a x checks h e = h
  passed-step false why a x checks h e = e refl

  pub walk_step : (stop : Stop) (on : Stop → A) (checks : List Check) → ((fault : Fault) (at : ℕ) → kind (on (At fault at)) ≡ Refused (of_fault fault at))
      → kind (on Whole) ≡ first_kind last checks → kind (on stop) ≡ first_kind last (walks stop ∷ checks)
  unfolding walks first_kind
  walk_step Whole on checks h e = e
  walk_step (At fault at) on checks h e = h fault at

-- a row that does not apply, one that does, the two other answers, and no row left
module _ (last : Kind) where
  pub pass : (why : Refusal) (checks : List Check) (kind : Kind) → kind ≡ first_kind last checks → kind ≡ first_kind last (refuse_if false why ∷ checks)
  unfolding refuse_if first_kind
  pass why checks kind e = e

  pub fault : (why : Refusal) (checks : List Check) → Refused why ≡ first_kind last (refuse_if true why ∷ checks)
  unfolding refuse_if first_kind
  fault why checks = refl

  pub skip : (checks : List Check) → Skipped ≡ first_kind last (skips ∷ checks)
  unfolding first_kind
  skip checks = refl

  pub end : (checks : List Check) → End ≡ first_kind last (ends ∷ checks)
  unfolding first_kind
  end checks = refl

  pub no_more : last ≡ first_kind last []
  unfolding first_kind
  no_more = refl

-- checks after others
pub first-append : (last : Kind) (xs ys : List Check) → first_kind last (xs ++ ys) ≡ first_kind (first_kind last ys) xs
unfolding first_kind
first-append last [] ys = refl
first-append last (passes ∷ xs) ys = first-append last xs ys
first-append last (refuses why ∷ xs) ys = refl
first-append last (ends ∷ xs) ys = refl
first-append last (skips ∷ xs) ys = refl

-- done exactly where every check passes
pub first_done : (checks : List Check) → first_kind Done checks ≡ Done → AllPass checks
unfolding first_kind
first_done [] e = none
first_done (passes ∷ checks) e = next (first_done checks e)
first_done (refuses why ∷ checks) e = absurd (let z : ◌≡◌ {A = ℕ} 0 1 = cc in omega arith)
first_done (ends ∷ checks) e = absurd (let z : ◌≡◌ {A = ℕ} 0 1 = cc in omega arith)
first_done (skips ∷ checks) e = absurd (let z : ◌≡◌ {A = ℕ} 0 1 = cc in omega arith)

pub done_first : {checks : List Check} → AllPass checks → first_kind Done checks ≡ Done
unfolding first_kind
done_first none = refl
done_first (next rest) = done_first rest

-- refused exactly by the first check that does not pass
pub first-refused : (why : Refusal) (checks : List Check) → first_kind Done checks ≡ Refused why → FirstIs why checks
unfolding first_kind
first-refused why [] e = absurd (let z : ◌≡◌ {A = ℕ} 0 1 = cc in omega arith)
first-refused why (passes ∷ checks) e = later (first-refused why checks e)
first-refused why (refuses other ∷ checks) e = let q : other ≡ why = cc in rw q here
first-refused why (ends ∷ checks) e = absurd (let z : ◌≡◌ {A = ℕ} 0 1 = cc in omega arith)
first-refused why (skips ∷ checks) e = absurd (let z : ◌≡◌ {A = ℕ} 0 1 = cc in omega arith)

pub refused-first : (why : Refusal) {checks : List Check} → FirstIs why checks → first_kind Done checks ≡ Refused why
unfolding first_kind
refused-first why here = refl
refused-first why (later rest) = refused-first why rest
