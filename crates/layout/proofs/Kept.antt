-- A change of one set of one port: that set is the new one, every other set is as it was.
use Prim.Native.Nat.{ℕ, ◌+◌, ◌-◌, ◌≤◌, ◌<◌}
use mathlib.Core.Path.{◌≡◌, refl, sym, ap, ◌∙◌}
use mathlib.Core.List.{List, ◌++◌}
use mathlib.Core.Logic.{⊎_elim}
use native.Mathlib.Omega.{arith}
use lib.ListN.{length, take, drop, get_or, length-append, length-drop, get_or-append}
use lib.Seq.{length-take-le, take_at, drop_at, get_or-append-add, get_or-take, get_or-drop, ext_get_or}
use Rattle.basics.specs.Put.{put, splice}
use Rattle.basics.proofs.Put.{length-put, get_or-put}
use Rattle.layout.specs.declared.Set.{Set}
use Rattle.layout.specs.declared.Sizes.{Sizes}
use Rattle.layout.specs.Layout.{size_of, total_words, set_place, set_at}
use Rattle.layout.proofs.Laws.{place_inside}
use Rattle.layout.proofs.Apart.{Apart, places-apart}

-- new words in a longer list
module _ (ws ys : List ℕ) (at : ℕ) (h : at + length ys ≤ length ws) where
  front : length (take at ws) ≡ at
  front = length-take-le at ws (omega arith)

  pub splice-length : length (splice at ws ys) ≡ length ws
  unfolding splice
  splice-length =
      length-append (take at ws) (put (drop at ws) ys)
      ∙ (let l = length-put (drop at ws) ys (rw (length-drop at ws) (omega arith)) in let d = length-drop at ws in let f = front in omega arith)

  pub splice-own : take (length ys) (drop at (splice at ws ys)) ≡ ys
  unfolding splice put
  splice-own =
      ap (take (length ys)) (drop_at (take at ws) (put (drop at ws) ys) at front) ∙ take_at ys (drop (length ys) (drop at ws)) (length ys) refl

  pub splice-below : (k : ℕ) → k < at → get_or (splice at ws ys) k 0 ≡ get_or ws k 0
  unfolding splice
  splice-below k l =
      get_or-append (take at ws) (put (drop at ws) ys) 0 k (let f = front in omega arith) ∙ get_or-take at ws k 0 l

  pub splice-above : (k : ℕ) → at + length ys ≤ k → get_or (splice at ws ys) k 0 ≡ get_or ws k 0
  unfolding splice
  splice-above k l =
      let e : k ≡ length (take at ws) + (k - at) = let f = front in omega arith in
      let b : at + (k - at) ≡ k = omega arith in
      ap (λ (n : ℕ). get_or (take at ws ++ put (drop at ws) ys) n 0) e ∙ get_or-append-add (take at ws) (put (drop at ws) ys) (k - at) 0
      ∙ get_or-put (drop at ws) ys (k - at) (omega arith) ∙ get_or-drop at ws (k - at) 0 ∙ ap (λ (n : ℕ). get_or ws n 0) b

  pub splice-other : (b w : ℕ) → b + w ≤ length ws → Apart at (length ys) b w → take w (drop b (splice at ws ys)) ≡ take w (drop b ws)
  splice-other b w l apart =
      ext_get_or 0 (take w (drop b (splice at ws ys))) (take w (drop b ws)) (long (splice at ws ys) splice-length ∙ sym (long ws refl))
      (λ j u. let v : j < w = let n = long (splice at ws ys) splice-length in omega arith in part (splice at ws ys) j v ∙ each j v ∙ sym (part ws j v))
    where
      long : (s : List ℕ) → length s ≡ length ws → length (take w (drop b s)) ≡ w
      long s e = length-take-le w (drop b s) (rw (length-drop b s) (omega arith))

      part : (s : List ℕ) (j : ℕ) → j < w → get_or (take w (drop b s)) j 0 ≡ get_or s (b + j) 0
      part s j v = get_or-take w (drop b s) j 0 v ∙ get_or-drop b s j 0

      each : (j : ℕ) → j < w → get_or (splice at ws ys) (b + j) 0 ≡ get_or ws (b + j) 0
      each j v = ⊎_elim (λ (q : at + length ys ≤ b). splice-above (b + j) (omega arith)) (λ (q : b + w ≤ at). splice-below (b + j) (omega arith)) apart

-- a new set in the settings
module _ (settings : List ℕ) (ports : ℕ) (width : Sizes) (exact : length settings ≡ total_words ports width) (position : ℕ) (h : position < ports) (set : Set)
    (new : List ℕ) (fits : length new ≡ size_of width set) where
  room : set_place ports width position set + length new ≤ length settings
  room = let i = place_inside ports width position set h in omega arith

  pub change-length : length (splice (set_place ports width position set) settings new) ≡ length settings
  change-length = splice-length settings new (set_place ports width position set) room

  pub change-own : set_at (splice (set_place ports width position set) settings new) ports width position set ≡ new
  unfolding set_at
  change-own = rw (← fits) (splice-own settings new (set_place ports width position set) room)

  pub change-other : (other : ℕ) (o : Set) → other < ports → (position ≡ other → set ≡ o → ⊥)
      → set_at (splice (set_place ports width position set) settings new) ports width other o ≡ set_at settings ports width other o
  unfolding set_at
  change-other other o l n =
      splice-other settings new (set_place ports width position set) room (set_place ports width other o) (size_of width o)
      (let i = place_inside ports width other o l in omega arith)
      (rw fits (places-apart ports width position other set o n))
