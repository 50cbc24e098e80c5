-- A Bool is what it is not the other of, and both of two are true where their `&&` is.
use mathlib.Core.Path.{◌≡◌, refl}
use mathlib.Core.Bool.{Bool, true, false, ◌&&◌, cond}
use Prim.Native.Nat.{ℕ}
use native.Mathlib.Omega.{arith}

pub true_of : (t : Bool) → (t ≡ false → ⊥) → t ≡ true
true_of true h = refl
true_of false h = absurd (h refl)

pub false_of : (t : Bool) → (t ≡ true → ⊥) → t ≡ false
false_of true h = absurd (h refl)
false_of false h = refl

pub clash : {t : Bool} → t ≡ true → t ≡ false → ⊥
clash p q = let z : ◌≡◌ {A = ℕ} 0 1 = cc in omega arith

-- the branch that a test takes
module _ {A : Type 0} (t : Bool) (a b : A) where
  pub cond-true : t ≡ true → cond t a b ≡ a
  cond-true e = rw e

  pub cond-false : t ≡ false → cond t a b ≡ b
  cond-false e = rw e

pub both_true : (x y : Bool) → x && y ≡ true → (x ≡ true) × (y ≡ true)
both_true true y e = (refl, e)
both_true false y e = absurd (clash e refl)
