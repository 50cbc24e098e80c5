-- Laws of the pairs of bytes of which the first may be NUL.
use Prim.Native.Nat.{ℕ, ◌+◌, ◌≤◌, ◌<◌}
use mathlib.Core.Path.{◌≡◌, sym, ap, ◌∙◌}
use mathlib.Core.Bool.{Bool, true, ◌&&◌, ◌||◌, not}
use mathlib.Core.List.{List, [], ◌∷◌, ◌++◌}
use native.Mathlib.Omega.{arith}
use lib.Dec.{eqb}
use lib.ListN.{length, get_or, take, drop, length-append, length-take}
use lib.Seq.{get_or-take, get_or-drop}
use Rattle.basics.specs.Scan.{all}
use Rattle.basics.specs.Nuls.{nul_then_nul}
use Rattle.basics.proofs.Scan.{all_none, all-plus}
use Rattle.numbers.specs.Pairs.{pair_at}

module _ (s : List ℕ) (at : ℕ) where
  pub pairs_start : true ≡ all 0 (pair_at s at)
  pairs_start = sym (all_none (pair_at s at))

  pub pairs-more : (j : ℕ) (t : Bool) → t ≡ all j (pair_at s at)
      → t && (not (eqb (get_or s (at + j) 0) 0) || eqb (get_or s (at + j + 1) 0) 0) ≡ all (j + 1) (pair_at s at)
  unfolding pair_at nul_then_nul
  pairs-more j t e = ap (λ (b : Bool). b && (not (eqb (get_or s (at + j) 0) 0) || eqb (get_or s (at + j + 1) 0) 0)) e ∙ sym (all-plus (pair_at s at) j)

  pub pairs-done : (n j : ℕ) (t : Bool) → j ≤ n → n ≤ j → t ≡ all j (pair_at s at) → t ≡ all n (pair_at s at)
  pairs-done n j t l u e = let k : j ≡ n = omega arith in rw k at e

  -- one pair more, of two slices of s that lie a byte apart
  pub pairs_turn : {A : Type 0} (n m : ℕ) (xs : List A) (x : A) (t : Bool) (a b : ℕ) → length xs < length (take n (drop at s)) → length xs < length (take m (drop (at + 1) s))
      → a ≡ get_or (take n (drop at s)) (length xs) 0 → b ≡ get_or (take m (drop (at + 1) s)) (length xs) 0 → t ≡ all (length xs) (pair_at s at)
      → t && (not (eqb a 0) || eqb b 0) ≡ all (length (xs ++ (x ∷ []))) (pair_at s at)
  pairs_turn n m xs x t a b l k ea eb e =
      let below : length xs < n = omega (arith, length-take n (drop at s)) in
      let under : length xs < m = omega (arith, length-take m (drop (at + 1) s)) in
      let first : a ≡ get_or s (at + length xs) 0 = ea ∙ get_or-take n (drop at s) (length xs) 0 below ∙ get_or-drop at s (length xs) 0 in
      let place : at + 1 + length xs ≡ at + length xs + 1 = omega arith in
      let second : b ≡ get_or s (at + length xs + 1) 0 =
      eb ∙ get_or-take m (drop (at + 1) s) (length xs) 0 under ∙ get_or-drop (at + 1) s (length xs) 0 ∙ ap (λ (i : ℕ). get_or s i 0) place in
      rw (first, second, length-append xs (x ∷ [])) (pairs-more (length xs) t e)

pub ruleset pairs-laws = (pairs_start, pairs-more, pairs-done)
