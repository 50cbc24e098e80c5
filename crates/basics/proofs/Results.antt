-- What a `?` hands on, and what an `ok_or` makes of an absent value.
use Rattle.std.proofs.Common.{◌≡◌, ℕ}
use mathlib.Core.Path.{refl, ap}
use Rattle.std.specs.Prelude.{Option, Some, None, Result, Ok, Err, IsErr, IsErrAnd, ok_or}
use native.Mathlib.Omega.{arith}

-- the error of a `?` is the error of the value
pub err-passed : {B E : Type 0} (r : Result B E) (why : E) → IsErr r × IsErrAnd r (λ x. x ≡ why) → r ≡ Err why
err-passed (Ok x) why h = absurd h.1
err-passed (Err e) why h = ap Err h.1

-- a value that is absent gives the refusal
pub lacks : {A E : Type 0} (o : Option A) (r : Result A E) (lack why : E) → r ≡ ok_or o lack → r ≡ Err why → (o ≡ None) × (why ≡ lack)
lacks None r lack why e q = (refl, cc)
lacks (Some x) r lack why e q = absurd (let z : ◌≡◌ {A = ℕ} 0 1 = cc in omega arith)

-- a value that is there goes on
pub gives : {A E : Type 0} (o : Option A) (r : Result A E) (lack : E) (x : A) → r ≡ ok_or o lack → r ≡ Ok x → o ≡ Some x
gives None r lack x e q = absurd (let z : ◌≡◌ {A = ℕ} 0 1 = cc in omega arith)
gives (Some y) r lack x e q = cc
