-- What `tally` counts, and the same count of what is meant in other words.
use Prim.Native.Nat.{ℕ, zero, suc, ◌+◌, ◌<◌, ◌≤◌}
use mathlib.Core.Path.{◌≡◌, refl}
use mathlib.Core.Bool.{Bool, true, false, cond}
use mathlib.Core.Logic.{⊎_elim}
use mathlib.Core.List.Memᴰ
use mathlib.Core.List.{[], ◌∷◌, Memᴰ}
use native.Mathlib.Omega.{arith}
use Rattle.basics.specs.Scan.{tally}
use Rattle.basics.specs.Those.{CountOf}
use Rattle.basics.specs.Those.Once.{none, more}
use Rattle.basics.proofs.Order.{lt-or-ge}
use Rattle.basics.proofs.Truth.{clash}

module _ (f : ℕ → Bool) where
  abbrev Holds : ℕ → Type 0
  Holds k = f k ≡ true

  module _ (n c : ℕ) (h : CountOf Holds n c) where
    counted-in : f n ≡ true → CountOf Holds (suc n) (c + 1)
    counted-in e = record {
      numbers = n ∷ h.numbers;
      once = more (λ m. let l = (h.each n m).0 in omega arith) h.once;
      each = λ k m. ⊎_elim (λ (q : k ≡ n). (omega arith, rw q e)) (λ (m : Memᴰ k h.numbers). (let l = (h.each k m).0 in omega arith, (h.each k m).1)) (Memᴰ.cases_cons m);
      all = λ k l t. ⊎_elim (λ (u : k < n). Memᴰ.tail (h.all k u t)) (λ (u : n ≤ k). Memᴰ.head (omega arith)) (lt-or-ge k n);
      counted = let z = h.counted in omega arith;
    }

    counted-past : f n ≡ false → CountOf Holds (suc n) c
    counted-past e = record {
      numbers = h.numbers;
      once = h.once;
      each = λ k m. (let l = (h.each k m).0 in omega arith, (h.each k m).1);
      all = λ k l t. ⊎_elim (λ (u : k < n). h.all k u t) (λ (u : n ≤ k). absurd (let q : k ≡ n = omega arith in clash (rw q at t) e)) (lt-or-ge k n);
      counted = h.counted;
    }

  pub tally-counts : (n : ℕ) → CountOf Holds n (tally n f)
  unfolding tally
  tally-counts zero = record {
    numbers = [];
    once = none;
    each = λ k m. absurd (Memᴰ.not-nil m);
    all = λ k l t. absurd (omega arith);
    counted = refl;
  }
  tally-counts (suc n) = go (f n) refl (tally-counts n)
    where
      go : (b : Bool) → f n ≡ b → CountOf Holds n (tally n f) → CountOf Holds (suc n) (tally n f + cond b 1 0)
      go true e h = counted-in n (tally n f) h e
      go false e h = let z : tally n f + 0 ≡ tally n f = omega arith in rw z (counted-past n (tally n f) h e)

-- the same numbers meant in other words
pub count-as : (A B : ℕ → Type 0) (n c : ℕ) → ((k : ℕ) → k < n → A k → B k) → ((k : ℕ) → k < n → B k → A k) → CountOf A n c → CountOf B n c
count-as A B n c to back h = record {
  numbers = h.numbers;
  once = h.once;
  each = λ k m. let a = h.each k m in (a.0, to k a.0 a.1);
  all = λ k l b. h.all k l (back k l b);
  counted = h.counted;
}
