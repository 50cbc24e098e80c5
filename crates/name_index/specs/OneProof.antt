-- No promise rests on this file: that tables lead to each name has at most one proof, as a fact that a type keeps must.
use Rattle.std.specs.Prelude.{ℕ, zero, suc, ◌≤◌, ◌<◌, ◌≡◌, List, refl}
use mathlib.Core.Path.{sym, ap, ◌∙◌}
use native.Mathlib.Nat.{ℕ_set}
use native.Mathlib.Bridge.{le_prop}
use Rattle.entries.specs.Entry.{count, entry_at}
use Rattle.name_index.specs.Chain.{key_of, Next, Linked}
use Rattle.name_index.specs.Chain.Next.{nowhere, entry}

module _ (names : List ℕ) (key from : ℕ) where
  -- what the next entry of a chain says, by cases
  abbrev Said : ℕ → Type 0
  Said zero = (j : ℕ) → from ≤ j → j < count names → key_of (entry_at names j) ≡ key → ⊥
  Said (suc i) = (from ≤ i) × (i < count names) × (key_of (entry_at names i) ≡ key) × ((j : ℕ) → from ≤ j → j < i → key_of (entry_at names j) ≡ key → ⊥)

  -- there and back
  to-said : (n : ℕ) → Next names key from n → Said n
  to-said _ (nowhere none) = none
  to-said _ (entry i l u e none) = (l, u, e, none)

  of-said : (n : ℕ) → Said n → Next names key from n
  of-said zero s = nowhere s
  of-said (suc i) s = entry i s.0 s.1 s.2 s.3

  same-said : (n : ℕ) (x : Next names key from n) → of-said n (to-said n x) ≡ x
  unfolding to-said of-said
  same-said _ (nowhere none) = refl
  same-said _ (entry i l u e none) = refl

  -- each case has one proof at most, and so has the fact
  said-prop : (n : ℕ) → IsProp (Said n)
  said-prop zero = hlevel
  said-prop (suc i) = hlevel (le_prop, ℕ_set)

  next-prop : (n : ℕ) → IsProp (Next names key from n)
  next-prop n x y = sym (same-said n x) ∙ ap (of-said n) (said-prop n (to-said n x) (to-said n y)) ∙ same-said n y

-- so it is of all the tables
pub linked-prop : (names head links : List ℕ) (from : ℕ) → IsProp (Linked names head links from)
linked-prop names head links from = hlevel (next-prop, le_prop, ℕ_set)
