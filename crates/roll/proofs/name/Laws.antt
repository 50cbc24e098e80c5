-- Laws of names: the field at a place, two names four bytes at a time, and the rule of a name.
use Prim.Native.Nat.{ℕ, ◌+◌, ◌-◌, ◌≤◌, ◌<◌}
use mathlib.Core.Path.{◌≡◌, refl, sym, ap, ◌∙◌}
use mathlib.Core.List.{List, []}
use mathlib.Core.Bool.{Bool, true, false, not}
use mathlib.Core.Logic.{⊎_elim}
use lib.ListN.{length, get_or}
use lib.Dec.{eqb, leb}
use native.Mathlib.Omega.{arith}
use borrow.Author.Tests.{eq-eqb, ne_eqb, eqb-true, le-leb, lt-leb, not-true, not-false}
use Rattle.basics.specs.Numbers.{byte_at, u32_at}
use Rattle.basics.specs.Nuls.{nul_then_nul, same_byte}
use Rattle.basics.specs.Scan.{all}
use Rattle.basics.proofs.Numbers.{same-four}
use Rattle.basics.proofs.Order.{lt-or-ge}
use Rattle.basics.proofs.Scan.{all_none, all_more, all-fails, all_done, all_of, all-each}
use Rattle.basics.proofs.Truth.{false_of, both_true, clash}
use Rattle.netlink_attributes.specs.Attributes.{part_of}
use Rattle.netlink_attributes.proofs.Laws.{part-past}
use Rattle.roll.specs.Name.{name_at, same_name, holds_name, name_right}

-- the field at a place
module _ (roll : List ℕ) (at : ℕ) where
  outside : length roll < at + 16 → [] ≡ name_at roll at
  unfolding name_at
  outside h = part-past roll at (at + 16) (omega arith) h

  pub field-short : length roll < 16 → [] ≡ name_at roll at
  field-short h = outside (omega arith)

  module _ (l : 16 ≤ length roll) where
    pub field_past : length roll - 16 < at → [] ≡ name_at roll at
    field_past h = outside (omega arith)

  pub field_in : (p : List ℕ) (e : ℕ) → e ≡ at + 16 → p ≡ part_of roll at e → p ≡ name_at roll at
  unfolding name_at
  field_in p e q h = h ∙ ap (part_of roll at) q

pub ruleset field_laws = (field-short, field_past, field_in)

-- two names
module _ (a b : List ℕ) where
  pub same_bytes : same_name a b ≡ true → (j : ℕ) → j < 16 → byte_at a j ≡ byte_at b j
  unfolding same_name same_byte byte_at
  same_bytes h j l = eqb-true _ _ (all-each (same_byte a b) 16 j h l)

  pub same_of : ((j : ℕ) → j < 16 → byte_at a j ≡ byte_at b j) → same_name a b ≡ true
  unfolding same_name same_byte byte_at
  same_of h = all_of (same_byte a b) 16 (λ j l. eq-eqb _ _ (h j l))

  pub four_same : (p : ℕ) → p + 4 ≤ 16 → same_name a b ≡ true → u32_at a p ≡ u32_at b p
  unfolding u32_at byte_at
  four_same p l h =
      rw
      (same_bytes h p (omega arith), same_bytes h (p + 1) (omega arith), same_bytes h (p + 2) (omega arith), same_bytes h (p + 3) (omega arith))

  pub four-compared : (p x y : ℕ) → x ≡ u32_at a p → y ≡ u32_at b p → eqb x y ≡ eqb (u32_at a p) (u32_at b p)
  four-compared p x y ex ey = rw (ex, ey)

  pub four-differ : (p : ℕ) (t : Bool) → t ≡ eqb (u32_at a p) (u32_at b p) → not t ≡ true → p + 4 ≤ 16 → false ≡ same_name a b
  four-differ p t et n l = sym (false_of (same_name a b) (λ h. clash (eq-eqb _ _ (four_same p l h)) (sym et ∙ not-true t n)))

  module _ (sa : (j : ℕ) → get_or a j 0 < 256) (sb : (j : ℕ) → get_or b j 0 < 256) where
    bytes : (p j : ℕ) → u32_at a p ≡ u32_at b p → p ≤ j → j < p + 4 → byte_at a j ≡ byte_at b j
    unfolding byte_at
    bytes p j e l u =
        let k : j ≡ p + (j - p) = omega arith in
        rw k (same-four a b p (λ i h. sa (p + i)) (λ i h. sb (p + i)) e (j - p) (omega arith))

    fours-same : u32_at a 0 ≡ u32_at b 0 → u32_at a 4 ≡ u32_at b 4 → u32_at a 8 ≡ u32_at b 8 → u32_at a 12 ≡ u32_at b 12 → same_name a b ≡ true
    fours-same e0 e4 e8 e12 = same_of (λ j l. ⊎_elim (λ (u : j < 8). low j u) (λ (u : 8 ≤ j). high j u l) (lt-or-ge j 8))
      where
        low : (j : ℕ) → j < 8 → byte_at a j ≡ byte_at b j
        low j l = ⊎_elim (λ (u : j < 4). bytes 0 j e0 (omega arith) u) (λ (u : 4 ≤ j). bytes 4 j e4 u l) (lt-or-ge j 4)

        high : (j : ℕ) → 8 ≤ j → j < 16 → byte_at a j ≡ byte_at b j
        high j g l = ⊎_elim (λ (u : j < 12). bytes 8 j e8 g u) (λ (u : 12 ≤ j). bytes 12 j e12 u l) (lt-or-ge j 12)

    -- the last four decide, where the others are equal
    pub fours-decide : (t8 t4 t0 t : Bool) → t8 ≡ eqb (u32_at a 8) (u32_at b 8) → not t8 ≡ false → t4 ≡ eqb (u32_at a 4) (u32_at b 4) → not t4 ≡ false
        → t0 ≡ eqb (u32_at a 0) (u32_at b 0) → not t0 ≡ false → t ≡ eqb (u32_at a 12) (u32_at b 12) → t ≡ same_name a b
    fours-decide t8 t4 t0 t e8 n8 e4 n4 e0 n0 e = go t e
      where
        equal : (p : ℕ) (b' : Bool) → b' ≡ eqb (u32_at a p) (u32_at b p) → not b' ≡ false → u32_at a p ≡ u32_at b p
        equal p b' q n = eqb-true _ _ (sym q ∙ not-false b' n)

        go : (z : Bool) → z ≡ eqb (u32_at a 12) (u32_at b 12) → z ≡ same_name a b
        go true q = sym (fours-same (equal 0 t0 e0 n0) (equal 4 t4 e4 n4) (equal 8 t8 e8 n8) (eqb-true _ _ (sym q)))
        go false q = four-differ 12 false q refl (omega arith)

-- a field that holds a name
module _ (field name : List ℕ) where
  pub name-long : 16 < length name → false ≡ holds_name field name
  unfolding holds_name
  name-long h = sym (rw (lt-leb _ _ h))

  pub name-fits : (b : Bool) → length name ≤ 16 → b ≡ same_name field name → b ≡ holds_name field name
  unfolding holds_name
  name-fits b h eb = eb ∙ sym (rw (le-leb _ _ h))

  pub named-same : holds_name field name ≡ true → same_name field name ≡ true
  unfolding holds_name
  named-same h = (both_true (leb (length name) 16) (same_name field name) h).1

pub ruleset named-laws = (name-long, name-fits)

-- the rule of a name
module _ (s : List ℕ) where
  module _ (j x : ℕ) (ex : x ≡ byte_at s j) where
    pub nul-no : (x ≡ 0 → ⊥) → true ≡ nul_then_nul s j
    unfolding nul_then_nul byte_at
    nul-no n = sym (rw (← ex, ne_eqb _ _ n))

    pub nul-yes : (y : ℕ) → x ≡ 0 → y ≡ byte_at s (j + 1) → eqb y 0 ≡ nul_then_nul s j
    unfolding nul_then_nul byte_at
    nul-yes y z ey = sym (rw (← ex, eq-eqb _ _ z, ← ey))

  module _ (x : ℕ) (ex : x ≡ byte_at s 0) where
    pub right-empty : x ≡ 0 → false ≡ name_right s
    unfolding name_right
    right-empty z = sym (rw (← ex, eq-eqb _ _ z))

    module _ (n : x ≡ 0 → ⊥) (y : ℕ) (ey : y ≡ byte_at s 15) where
      pub right-full : (y ≡ 0 → ⊥) → false ≡ name_right s
      unfolding name_right
      right-full z = sym (rw (← ex, ne_eqb _ _ n, ← ey, ne_eqb _ _ z))

      module _ (z : y ≡ 0) where
        rest : name_right s ≡ all 15 (nul_then_nul s)
        unfolding name_right
        rest = rw (← ex, ne_eqb _ _ n, ← ey, eq-eqb _ _ z)

        pub right-not : (j : ℕ) (b : Bool) → j < 15 → b ≡ nul_then_nul s j → not b ≡ true → false ≡ name_right s
        right-not j b l e q = sym (rest ∙ all-fails (nul_then_nul s) 15 j l (sym e ∙ not-true b q))

        pub right-done : (j : ℕ) → all j (nul_then_nul s) ≡ true → j ≤ 15 → 15 ≤ j → true ≡ name_right s
        right-done j h l u = sym (rest ∙ all_done (nul_then_nul s) 15 j h l u)

  pub right-start : all 0 (nul_then_nul s) ≡ true
  right-start = all_none (nul_then_nul s)

  pub right-more : (j : ℕ) (b : Bool) → all j (nul_then_nul s) ≡ true → b ≡ nul_then_nul s j → not b ≡ false → all (j + 1) (nul_then_nul s) ≡ true
  right-more j b h e q = all_more (nul_then_nul s) j h (sym e ∙ not-false b q)

  pub right-starts : name_right s ≡ true → byte_at s 0 ≡ 0 → ⊥
  unfolding name_right
  right-starts h z = clash h (rw z)

pub ruleset nul-laws = (nul-no, nul-yes)

pub ruleset right-laws = (right-empty, right-full, right-not, right-done, right-start, right-more)
