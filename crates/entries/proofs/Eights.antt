-- Entries compared eight bytes at a time: they are the same exactly when their four numbers are.
use Prim.Native.Nat.{ℕ, ◌+◌, ◌-◌, ◌*◌, ◌≤◌, ◌<◌}
use mathlib.Core.Path.{◌≡◌, refl, sym, ap, ◌∙◌}
use mathlib.Core.Bool.{Bool, true, false, ◌&&◌}
use mathlib.Core.Logic.{⊎_elim}
use mathlib.Core.List.{List}
use native.Mathlib.Omega.{arith}
use lib.Dec.{eqb}
use lib.ListN.{length, get_or, get_or-eq_default}
use borrow.Author.Tests.{eq-eqb, eqb-true}
use Rattle.basics.specs.Numbers.{u32_at, u64_at}
use Rattle.basics.proofs.Numbers.{same-four}
use Rattle.basics.proofs.Order.{lt-or-ge}
use Rattle.basics.proofs.Truth.{false_of, both_true, clash}
use Rattle.entries.specs.Entry.{count, entry_at, same_entry}
use Rattle.entries.proofs.Entries.{entry-byte, entry_length, entry-eight, same_of, same-eight}

-- two lists of 32 bytes whose four numbers of eight bytes are equal
module _ (a b : List ℕ) (sa : (j : ℕ) → j < 32 → get_or a j 0 < 256) (sb : (j : ℕ) → j < 32 → get_or b j 0 < 256) where
  four-lt : (s : List ℕ) → ((j : ℕ) → j < 32 → get_or s j 0 < 256) → (p : ℕ) → p + 4 ≤ 32 → u32_at s p < 4294967296
  unfolding u32_at
  four-lt s h p l = omega (arith, h p (omega arith), h (p + 1) (omega arith), h (p + 2) (omega arith), h (p + 3) (omega arith))

  halves : (p : ℕ) → p + 8 ≤ 32 → u64_at a p ≡ u64_at b p → (u32_at a p ≡ u32_at b p) × (u32_at a (p + 4) ≡ u32_at b (p + 4))
  halves p l e = apart (u32_at a p) (u32_at b p) (u32_at a (p + 4)) (u32_at b (p + 4)) (four-lt a sa p (omega arith)) (four-lt b sb p (omega arith)) e
    where
      apart : (x y u v : ℕ) → x < 4294967296 → y < 4294967296 → x + u * 4294967296 ≡ y + v * 4294967296 → (x ≡ y) × (u ≡ v)
      apart x y u v hx hy e = (omega arith, omega arith)

  bytes : (p r : ℕ) → p + 4 ≤ 32 → r < 4 → u32_at a p ≡ u32_at b p → get_or a (p + r) 0 ≡ get_or b (p + r) 0
  bytes p r l h e = same-four a b p (λ j u. sa (p + j) (omega arith)) (λ j u. sb (p + j) (omega arith)) e r h

  eight-bytes : (p r : ℕ) → p + 8 ≤ 32 → r < 8 → u64_at a p ≡ u64_at b p → get_or a (p + r) 0 ≡ get_or b (p + r) 0
  eight-bytes p r l h e =
      ⊎_elim
      (λ (u : r < 4). bytes p r (omega arith) u (halves p l e).0)
      (λ (u : 4 ≤ r). let k : p + r ≡ p + 4 + (r - 4) = omega arith in rw k (bytes (p + 4) (r - 4) (omega arith) (omega arith) (halves p l e).1))
      (lt-or-ge r 4)

  pub eights-same : u64_at a 0 ≡ u64_at b 0 → u64_at a 8 ≡ u64_at b 8 → u64_at a 16 ≡ u64_at b 16 → u64_at a 24 ≡ u64_at b 24 → same_entry a b ≡ true
  eights-same e0 e1 e2 e3 = same_of a b (λ j l. ⊎_elim (λ (u : j < 16). low j u) (λ (u : 16 ≤ j). high j u l) (lt-or-ge j 16))
    where
      at : (p j : ℕ) → p + 8 ≤ 32 → p ≤ j → j < p + 8 → u64_at a p ≡ u64_at b p → get_or a j 0 ≡ get_or b j 0
      at p j l u v e = let k : j ≡ p + (j - p) = omega arith in rw k (eight-bytes p (j - p) l (omega arith) e)

      low : (j : ℕ) → j < 16 → get_or a j 0 ≡ get_or b j 0
      low j l = ⊎_elim (λ (u : j < 8). at 0 j (omega arith) (omega arith) u e0) (λ (u : 8 ≤ j). at 8 j (omega arith) u l e1) (lt-or-ge j 8)

      high : (j : ℕ) → 16 ≤ j → j < 32 → get_or a j 0 ≡ get_or b j 0
      high j g l = ⊎_elim (λ (u : j < 24). at 16 j (omega arith) g u e2) (λ (u : 24 ≤ j). at 24 j (omega arith) u l e3) (lt-or-ge j 24)

-- an entry and a name by their numbers
module _ (list name : List ℕ) (i : ℕ) (hi : i < count list) (small : (j : ℕ) → get_or list j 0 < 256) (small-name : (j : ℕ) → get_or name j 0 < 256) where
  abbrev entry : List ℕ
  entry = entry_at list i

  pub name-numbers : (t0 t1 t2 t3 : Bool) → t0 ≡ eqb (u64_at list (i * 32)) (u64_at name 0) → t1 ≡ eqb (u64_at list (i * 32 + 8)) (u64_at name 8)
      → t2 ≡ eqb (u64_at list (i * 32 + 16)) (u64_at name 16) → t3 ≡ eqb (u64_at list (i * 32 + 24)) (u64_at name 24)
      → t0 && t1 && t2 && t3 ≡ same_entry entry name
  name-numbers t0 t1 t2 t3 e0 e1 e2 e3 =
      rw
      (e0 ∙ at 0 (i * 32) (omega arith) (omega arith), e1 ∙ at 8 (i * 32 + 8) (omega arith) refl, e2 ∙ at 16 (i * 32 + 16) (omega arith) refl, e3 ∙ at 24 (i * 32 + 24) (omega arith) refl)
      (go (same_entry entry name) refl)
    where
      at : (p q : ℕ) → p + 8 ≤ 32 → i * 32 + p ≡ q → eqb (u64_at list q) (u64_at name p) ≡ eqb (u64_at entry p) (u64_at name p)
      at p q l eq = ap (λ (x : ℕ). eqb x (u64_at name p)) (sym (entry-eight list i hi p q l eq))

      small-entry : (j : ℕ) → j < 32 → get_or entry j 0 < 256
      small-entry j l = omega (arith, entry-byte list i hi j l, small (i * 32 + j))

      all_true : eqb (u64_at entry 0) (u64_at name 0) && eqb (u64_at entry 8) (u64_at name 8) && eqb (u64_at entry 16) (u64_at name 16) && eqb (u64_at entry 24) (u64_at name 24) ≡ true
          → same_entry entry name ≡ true
      all_true z =
          let y3 = both_true _ _ z in
          let y2 = both_true _ _ y3.0 in
          let y1 = both_true _ _ y2.0 in
          eights-same entry name small-entry (λ j l. small-name j) (eqb-true _ _ y1.0) (eqb-true _ _ y1.1) (eqb-true _ _ y2.1) (eqb-true _ _ y3.1)

      go : (t : Bool) → same_entry entry name ≡ t
          → eqb (u64_at entry 0) (u64_at name 0) && eqb (u64_at entry 8) (u64_at name 8) && eqb (u64_at entry 16) (u64_at name 16) && eqb (u64_at entry 24) (u64_at name 24) ≡ same_entry entry name
      go true e =
          let x : (p : ℕ) → p + 8 ≤ 32 → eqb (u64_at entry p) (u64_at name p) ≡ true = λ p l. eq-eqb (u64_at entry p) (u64_at name p) (same-eight entry name p e l) in
          rw (x 0 (omega arith), x 8 (omega arith), x 16 (omega arith), x 24 (omega arith)) (sym e)
      go false e = false_of _ (λ z. clash (all_true z) e) ∙ sym e

-- two entries by their numbers: the second is a name of 32 bytes
module _ (list : List ℕ) (i k : ℕ) (hi : i < count list) (hk : k < count list) (small : (j : ℕ) → get_or list j 0 < 256) where
  small-other : (j : ℕ) → get_or (entry_at list k) j 0 < 256
  small-other j =
      ⊎_elim
      (λ (l : j < 32). omega (arith, entry-byte list k hk j l, small (k * 32 + j)))
      (λ (l : 32 ≤ j). let over : length (entry_at list k) ≤ j = omega (arith, entry_length list k hk) in rw (get_or-eq_default (entry_at list k) 0 over) (omega arith))
      (lt-or-ge j 32)

  pub same_numbers : (t0 t1 t2 t3 : Bool) → t0 ≡ eqb (u64_at list (i * 32)) (u64_at list (k * 32)) → t1 ≡ eqb (u64_at list (i * 32 + 8)) (u64_at list (k * 32 + 8))
      → t2 ≡ eqb (u64_at list (i * 32 + 16)) (u64_at list (k * 32 + 16)) → t3 ≡ eqb (u64_at list (i * 32 + 24)) (u64_at list (k * 32 + 24))
      → t0 && t1 && t2 && t3 ≡ same_entry (entry_at list i) (entry_at list k)
  same_numbers t0 t1 t2 t3 e0 e1 e2 e3 =
      name-numbers list (entry_at list k) i hi small small-other t0 t1 t2 t3
      (e0 ∙ at 0 (i * 32) (k * 32) (omega arith) (omega arith)) (e1 ∙ at 8 (i * 32 + 8) (k * 32 + 8) (omega arith) refl)
      (e2 ∙ at 16 (i * 32 + 16) (k * 32 + 16) (omega arith) refl) (e3 ∙ at 24 (i * 32 + 24) (k * 32 + 24) (omega arith) refl)
    where
      at : (p q r : ℕ) → p + 8 ≤ 32 → k * 32 + p ≡ r → eqb (u64_at list q) (u64_at list r) ≡ eqb (u64_at list q) (u64_at (entry_at list k) p)
      at p q r l er = ap (eqb (u64_at list q)) (sym (entry-eight list k hk p r l er))
