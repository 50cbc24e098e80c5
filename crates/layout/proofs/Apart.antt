-- Two sets lie apart, and together they are all the words.
use Prim.Native.Nat.{ℕ, ◌+◌, ◌*◌, ◌/◌, ◌%◌, ◌≤◌, ◌<◌}
use mathlib.Core.Path.{◌≡◌, refl}
use mathlib.Core.Logic.{◌⊎◌, inl, inr, ⊎_elim}
use native.Mathlib.Nat.{div-add-mod', mod-lt, mul-le-mul_left, mul-le-mul_right}
use native.Mathlib.Omega.{arith}
use Rattle.basics.proofs.Order.{lt-or-ge}
use Rattle.layout.specs.declared.Set.{Set}
use Rattle.layout.specs.declared.Set.TheVariants.{Debug, Flags}
use Rattle.layout.specs.declared.Sizes.{Sizes}
use Rattle.layout.specs.Layout.{size_of, port_words, first_of, total_words, set_place}
use Rattle.layout.proofs.Laws.{port-step, in-port}

-- one ends before the other starts
abbrev pub Apart : ℕ → ℕ → ℕ → ℕ → Type 0
Apart a v b w = (a + v ≤ b) ⊎ (b + w ≤ a)

module _ (ports : ℕ) (width : Sizes) where
  -- of two ports
  earlier : (p q : ℕ) (s t : Set) → p < q → set_place ports width p s + size_of width s ≤ set_place ports width q t
  unfolding set_place
  earlier p q s t h = omega (arith, port-step (port_words width) p q h, in-port width s)

  -- of one port
  beside : (p : ℕ) (s t : Set) → (s ≡ t → ⊥) → Apart (set_place ports width p s) (size_of width s) (set_place ports width p t) (size_of width t)
  unfolding set_place first_of size_of
  beside p Debug Debug n = absurd (n refl)
  beside p Debug Flags n = inl (omega arith)
  beside p Flags Debug n = inr (omega arith)
  beside p Flags Flags n = absurd (n refl)

  pub places-apart : (p q : ℕ) (s t : Set) → (p ≡ q → s ≡ t → ⊥) → Apart (set_place ports width p s) (size_of width s) (set_place ports width q t) (size_of width t)
  places-apart p q s t n =
      ⊎_elim
      (λ (h : p < q). inl (earlier p q s t h))
      (λ (h : q ≤ p). ⊎_elim (λ (l : q < p). inr (earlier q p t s l)) (λ (l : p ≤ q). same (omega arith)) (lt-or-ge q p))
      (lt-or-ge p q)
    where
      same : p ≡ q → Apart (set_place ports width p s) (size_of width s) (set_place ports width q t) (size_of width t)
      same e = rw (← e) (beside p s t (n e))

-- a word that belongs to a set of a port
pub record Owned (ports : ℕ) (width : Sizes) (j : ℕ) : Type 0 where
  pub position : ℕ
  pub set : Set
  pub port : position < ports
  pub from : set_place ports width position set ≤ j
  pub to : j < set_place ports width position set + size_of width set

-- together all: each word belongs to one
module _ (ports n j : ℕ) (h : j < ports * n) where
  some : 0 < n
  some = ⊎_elim (λ (l : 0 < n). l) (λ (l : n ≤ 0). absurd (none l)) (lt-or-ge 0 n)
    where
      none : n ≤ 0 → ⊥
      none l = let z : ports * n ≤ ports * 0 = mul-le-mul_left ports l in omega arith

  which : j / n < ports
  which =
      ⊎_elim
      (λ (l : j / n < ports). l)
      (λ (l : ports ≤ j / n). absurd (let a : ports * n ≤ j / n * n = mul-le-mul_right n l in let b = div-add-mod' j n in omega arith))
      (lt-or-ge (j / n) ports)

pub words-owned : (ports : ℕ) (width : Sizes) (j : ℕ) → j < total_words ports width → Owned ports width j
unfolding total_words set_place port_words first_of size_of
words-owned ports width j h =
    let n = width.debug + width.flags in
    let b = div-add-mod' j n in
    ⊎_elim
    (λ (l : j % n < width.debug). record { position = j / n; set = Debug; port = which ports n j h; from = omega arith; to = omega arith })
    (λ (l : width.debug ≤ j % n). record { position = j / n; set = Flags; port = which ports n j h; from = omega arith; to = let m = mod-lt j (some ports n j h) in omega arith })
    (lt-or-ge (j % n) width.debug)
