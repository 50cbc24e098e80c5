-- Laws of `all`, `any`, `first` and `tally`: how a loop that counts up goes on, how it ends, and what they mean.
use Prim.Native.Nat.{ℕ, zero, suc, ◌+◌, ◌<◌, ◌≤◌}
use mathlib.Core.Path.{◌≡◌, refl, sym, ◌∙◌}
use mathlib.Core.Bool.{Bool, true, false, ◌&&◌, cond, and-false, or-true}
use native.Mathlib.Numerals.{add-one}
use native.Mathlib.Nat.{eq-or-lt_of_le}
use native.Mathlib.Omega.{arith}
use mathlib.Core.Logic.{⊎_elim}
use lib.Dec.{ltb}
use borrow.Author.Tests.{lt-ltb, le-ltb, ltb-true}
use Rattle.basics.specs.Scan.{all, any, first, tally}
use Rattle.basics.proofs.Order.{lt-or-ge}

module _ (f : ℕ → Bool) where
  pub all_none : all 0 f ≡ true
  unfolding all
  all_none = refl

  pub all-plus : (i : ℕ) → all (i + 1) f ≡ all i f && f i
  unfolding all
  all-plus i = rw (add-one i)

  pub all_more : (i : ℕ) → all i f ≡ true → f i ≡ true → all (i + 1) f ≡ true
  unfolding all
  all_more i h e = rw (add-one i, h, e)

  pub all-fails : (n i : ℕ) → i < n → f i ≡ false → all n f ≡ false
  unfolding all
  all-fails zero i l e = absurd (omega arith)
  all-fails (suc n) i l e =
      ⊎_elim
      (λ (q : suc i ≡ suc n). rw (← suc-same q, e, and-false))
      (λ q. rw (all-fails n i (omega arith) e))
      (eq-or-lt_of_le l)
    where
      suc-same : {a b : ℕ} → suc a ≡ suc b → a ≡ b
      suc-same p = omega arith

  -- the same as a loop needs them that asks a function: b is what the function says of i
  pub all-next : (i : ℕ) (b : Bool) → all i f ≡ true → b ≡ f i → b ≡ true → all (i + 1) f ≡ true
  all-next i b h e q = all_more i h (sym e ∙ q)

  pub all_done : (n i : ℕ) → all i f ≡ true → i ≤ n → n ≤ i → all n f ≡ true
  all_done n i h l u = let k : i ≡ n = omega arith in rw k at h

  -- what `all` means
  pub all-each : (n i : ℕ) → all n f ≡ true → i < n → f i ≡ true
  all-each n i h l = go (f i) refl
    where
      go : (b : Bool) → f i ≡ b → f i ≡ true
      go true e = e
      go false e = let z : true ≡ false = sym h ∙ all-fails n i l e in e ∙ sym z

  pub all_of : (n : ℕ) → ((k : ℕ) → k < n → f k ≡ true) → all n f ≡ true
  unfolding all
  all_of zero g = refl
  all_of (suc n) g = rw (all_of n (λ k l. g k (omega arith)), g n (omega arith))

  -- some number below n, or none
  pub any-one : (n i : ℕ) → i < n → f i ≡ true → any n f ≡ true
  unfolding any
  any-one zero i l e = absurd (omega arith)
  any-one (suc n) i l e =
      ⊎_elim
      (λ (q : i < n). rw (any-one n i q e))
      (λ (q : n ≤ i). let p : n ≡ i = omega arith in rw (p, e, or-true))
      (lt-or-ge i n)

  pub any_none : (n : ℕ) → ((k : ℕ) → k < n → f k ≡ false) → any n f ≡ false
  unfolding any
  any_none zero g = refl
  any_none (suc n) g = rw (any_none n (λ k l. g k (omega arith)), g n (omega arith))

  pub any-not : (n i : ℕ) → any n f ≡ false → i < n → f i ≡ false
  any-not n i h l = go (f i) refl
    where
      go : (b : Bool) → f i ≡ b → f i ≡ false
      go true e = let z : false ≡ true = sym h ∙ any-one n i l e in e ∙ sym z
      go false e = e

  -- the search has passed every number below i
  pub first-none : first 0 f ≡ 0
  unfolding first
  first-none = refl

  pub first_more : (i : ℕ) → first i f ≡ i → f i ≡ false → first (i + 1) f ≡ i + 1
  unfolding first
  first_more i h e = rw (add-one i, h, le-ltb i i (omega arith), e)

  -- it ends at i
  pub first-at : (n i : ℕ) → i < n → first i f ≡ i → f i ≡ true → first n f ≡ i
  unfolding first
  first-at zero i l h e = absurd (omega arith)
  first-at (suc n) i l h e =
      ⊎_elim (λ (q : i < n). before q (first-at n i q h e)) (λ q. here q) (lt-or-ge i n)
    where
      before : i < n → first n f ≡ i → cond (ltb (first n f) n) (first n f) (cond (f n) n (suc n)) ≡ i
      before q p = rw (p, lt-ltb i n q)

      here : n ≤ i → cond (ltb (first n f) n) (first n f) (cond (f n) n (suc n)) ≡ i
      here q = let p : n ≡ i = omega arith in rw (p, h, le-ltb i i (omega arith), e)

  -- where it ends f holds
  pub first-is : (n : ℕ) → first n f < n → f (first n f) ≡ true
  unfolding first
  first-is zero h = absurd (omega arith)
  first-is (suc n) h = go (ltb (first n f) n) (f n) refl refl (first-is n) h
    where
      go : (t u : Bool) → ltb (first n f) n ≡ t → f n ≡ u → (first n f < n → f (first n f) ≡ true)
          → cond t (first n f) (cond u n (suc n)) < suc n → f (cond t (first n f) (cond u n (suc n))) ≡ true
      go true u et eu r h = r (ltb-true (first n f) n et)
      go false true et eu r h = eu
      go false false et eu r h = absurd (omega arith)

  -- the count of those below i
  pub tally-none : tally 0 f ≡ 0
  unfolding tally
  tally-none = refl

  pub tally-more : (i : ℕ) → f i ≡ true → tally (i + 1) f ≡ tally i f + 1
  unfolding tally
  tally-more i e = rw (add-one i, e)

  pub tally-past : (i : ℕ) → f i ≡ false → tally (i + 1) f ≡ tally i f
  unfolding tally
  tally-past i e = rw (add-one i, e) (omega arith)

  pub tally-le : (n : ℕ) → tally n f ≤ n
  unfolding tally
  tally-le zero = omega arith
  tally-le (suc n) = go (f n) (tally-le n)
    where
      go : (b : Bool) → tally n f ≤ n → tally n f + cond b 1 0 ≤ suc n
      go true h = omega arith
      go false h = omega arith

  -- none of those from a on is counted
  pub tally-flat : (a n : ℕ) → ((k : ℕ) → a ≤ k → k < a + n → f k ≡ false) → tally (a + n) f ≡ tally a f
  tally-flat a zero g = let e : a + 0 ≡ a = omega arith in rw e
  tally-flat a (suc n) g =
      let e : a + suc n ≡ a + n + 1 = omega arith in
      rw e (tally-past (a + n) (g (a + n) (omega arith) (omega arith)) ∙ tally-flat a n (λ k l u. g k l (omega arith)))

  -- f holds of none of those from a on, so the search passes them too
  pub first_on : (a n : ℕ) → first a f ≡ a → ((k : ℕ) → a ≤ k → k < a + n → f k ≡ false) → first (a + n) f ≡ a + n
  first_on a zero h g = let e : a + 0 ≡ a = omega arith in rw e h
  first_on a (suc n) h g =
      let e : a + suc n ≡ a + n + 1 = omega arith in
      rw e (first_more (a + n) (first_on a n h (λ k l u. g k l (omega arith))) (g (a + n) (omega arith) (omega arith)))
