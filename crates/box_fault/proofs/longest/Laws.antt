-- Laws of the longest right beginning: how a loop that counts down finds it, and what it means.
use Prim.Native.Nat.{ℕ, zero, suc, ◌*◌, ◌-◌, ◌/◌, ◌%◌, ◌≤◌, ◌<◌, min}
use mathlib.Core.Path.{◌≡◌, refl, sym, ap, ◌∙◌}
use mathlib.Core.List.{List}
use mathlib.Core.Bool.{Bool, true, false, cond}
use mathlib.Core.Logic.{⊎_elim}
use lib.ListN.{length, take}
use lib.Seq.{length-take-le}
use native.Mathlib.Omega.{arith}
use Rattle.basics.proofs.Order.{lt-or-ge}
use Rattle.basics.proofs.Truth.{false_of, clash}
use Rattle.names.specs.Rule.{names_right}
use Rattle.names.proofs.Rules as N
use Rattle.roll.specs.Table.{most_bytes}
use Rattle.roll.proofs.table.Laws.{listed-room}
use Rattle.roll_rule.specs.Rule.{roll_right}
use Rattle.roll_rule.proofs.Laws as R
use Rattle.box_fault.specs.Longest.{longest, right_up_to}

module _ (right : List ℕ → Bool) (s : List ℕ) where
  longest-here : (n : ℕ) → 0 < n → right (take n s) ≡ true → longest right s n ≡ n
  unfolding longest
  longest-here zero l e = absurd (omega arith)
  longest-here (suc n) l e = rw e

  longest-down : (n : ℕ) → 0 < n → right (take n s) ≡ false → longest right s n ≡ longest right s (n - 1)
  unfolding longest
  longest-down zero l e = absurd (omega arith)
  longest-down (suc n) l e = let q : suc n - 1 ≡ n = omega arith in rw (q, e)

  -- beginnings that are not right are passed over
  longest-past : (n most : ℕ) → n ≤ most → ((k : ℕ) → n < k → k ≤ most → right (take k s) ≡ false) → longest right s most ≡ longest right s n
  unfolding longest
  longest-past n zero l h = let q : 0 ≡ n = omega arith in ap (longest right s) q
  longest-past n (suc most) l h =
      ⊎_elim
      (λ (u : n < suc most). rw (h (suc most) u (omega arith)) (longest-past n most (omega arith) (λ k v w. h k v (omega arith))))
      (λ (u : suc most ≤ n). let q : suc most ≡ n = omega arith in ap (longest right s) q)
      (lt-or-ge n (suc most))

  -- a loop that looks at the beginnings from n elements downwards
  abbrev pub From : ℕ → Type 0
  From n = right_up_to right s ≡ longest right s n

  pub from_all : (n : ℕ) → n ≡ length s → From n
  unfolding right_up_to
  from_all n e = ap (longest right s) (sym e)

  from-most : (most n : ℕ) → ((t : List ℕ) → right t ≡ true → length t ≤ most) → n ≡ min (length s) most → From n
  unfolding right_up_to
  from-most most n few e =
      longest-past n (length s) (omega arith)
      (λ k l u. false_of (right (take k s)) (λ r. let z = few (take k s) r in let q = length-take-le k s u in omega arith))

  module _ (n : ℕ) (inv : From n) where
    pub from-none : n ≤ 0 → 0 ≡ right_up_to right s
    unfolding longest
    from-none l = let q : n ≡ 0 = omega arith in sym (inv ∙ ap (longest right s) q)

    module _ (l : 0 < n) (b : Bool) (e : b ≡ right (take n s)) where
      pub from-here : b ≡ true → n ≡ right_up_to right s
      from-here h = sym (inv ∙ longest-here n l (sym e ∙ h))

      pub from-down : b ≡ false → From (n - 1)
      from-down h = inv ∙ longest-down n l (sym e ∙ h)

  -- what it means
  longest-inside : (n : ℕ) → longest right s n ≤ n
  unfolding longest
  longest-inside zero = omega arith
  longest-inside (suc n) = go (right (take (suc n) s)) (longest-inside n)
    where
      go : (t : Bool) → longest right s n ≤ n → cond t (suc n) (longest right s n) ≤ suc n
      go true h = omega arith
      go false h = omega arith

  longest-right : (n : ℕ) → 0 < longest right s n → right (take (longest right s n) s) ≡ true
  unfolding longest
  longest-right zero l = absurd (omega arith)
  longest-right (suc n) l = go (right (take (suc n) s)) refl (longest-right n) l
    where
      go : (t : Bool) → right (take (suc n) s) ≡ t → (0 < longest right s n → right (take (longest right s n) s) ≡ true)
          → 0 < cond t (suc n) (longest right s n) → right (take (cond t (suc n) (longest right s n)) s) ≡ true
      go true e f l = e
      go false e f l = f l

  longest-most : (n k : ℕ) → longest right s n < k → k ≤ n → right (take k s) ≡ true → ⊥
  unfolding longest
  longest-most zero k l u r = absurd (omega arith)
  longest-most (suc n) k l u r = go (right (take (suc n) s)) refl l (λ m v. longest-most n k m v r)
    where
      go : (t : Bool) → right (take (suc n) s) ≡ t → cond t (suc n) (longest right s n) < k → (longest right s n < k → k ≤ n → ⊥) → ⊥
      go true e l f = omega arith
      go false e l f =
          ⊎_elim
          (λ (v : k < suc n). f l (omega arith))
          (λ (v : suc n ≤ k). let q : k ≡ suc n = omega arith in clash r (ap (λ (x : ℕ). right (take x s)) q ∙ e))
          (lt-or-ge k (suc n))

  pub up-to-inside : right_up_to right s ≤ length s
  unfolding right_up_to
  up-to-inside = longest-inside (length s)

  pub up-to-right : 0 < right_up_to right s → right (take (right_up_to right s) s) ≡ true
  unfolding right_up_to
  up-to-right l = longest-right (length s) l

  pub up-to-most : (k : ℕ) → right_up_to right s < k → k ≤ length s → right (take k s) ≡ true → ⊥
  unfolding right_up_to
  up-to-most k l u r = longest-most (length s) k l u r

pub ruleset longest-laws = (from-none, from-here, from-down)

-- a right roll and a right name list are no longer than the loops begin
pub roll-start : (roll : List ℕ) (n : ℕ) → n ≡ min (length roll) (64 * most_bytes) → From roll_right roll n
roll-start roll n e = from-most roll_right roll (64 * most_bytes) n (λ t r. listed-room t (R.right-means t r).listed) e

module _ (list : List ℕ) where
  names-most : (n : ℕ) → n ≡ min (length list) (512 * 32) → From names_right list n
  names-most n e = from-most names_right list (512 * 32) n (λ t r. let m = N.right-means t r in let w = m.whole in let f = m.few in omega arith) e

  -- a beginning that ends inside an entry is not right
  part-wrong : (k : ℕ) → k ≤ length list → (k % 32 ≡ 0 → ⊥) → names_right (take k list) ≡ false
  part-wrong k u d = false_of (names_right (take k list)) (λ r. d (let w = (N.right-means (take k list) r).whole in let q = length-take-le k list u in omega arith))

  pub names-start : (n : ℕ) → n ≡ min (length list) (512 * 32) → From names_right list (n / 32 * 32)
  names-start n e = names-most n e ∙ longest-past names_right list (n / 32 * 32) n (omega arith) (λ k l u. part-wrong k (omega arith) (λ z. omega arith))

  module _ (n : ℕ) (inside : n * 32 ≤ length list) (inv : From names_right list (n * 32)) (l : 0 < n) (b : Bool) (e : b ≡ names_right (take (n * 32) list)) where
    pub names-here : b ≡ true → n * 32 ≡ right_up_to names_right list
    names-here h = from-here names_right list (n * 32) inv (omega arith) b e h

    pub names-down : b ≡ false → From names_right list ((n - 1) * 32)
    names-down h =
        inv
        ∙ longest-past names_right list ((n - 1) * 32) (n * 32) (omega arith)
        (λ k v u. ⊎_elim (λ (x : k < n * 32). part-wrong k (omega arith) (λ z. omega arith)) (λ (x : n * 32 ≤ k). here k (omega arith)) (lt-or-ge k (n * 32)))
      where
        here : (k : ℕ) → k ≡ n * 32 → names_right (take k list) ≡ false
        here k q = ap (λ (x : ℕ). names_right (take x list)) q ∙ sym e ∙ h

  pub names-none : (n : ℕ) → From names_right list (n * 32) → n ≤ 0 → 0 ≡ right_up_to names_right list
  names-none n inv z = from-none names_right list (n * 32) inv (omega arith)
