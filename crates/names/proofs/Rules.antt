-- Laws of the rule: how the checks decide it, and what a right list gives.
use Prim.Native.Nat.{ℕ, zero, suc, ◌+◌, ◌-◌, ◌*◌, ◌%◌, ◌≤◌, ◌<◌}
use mathlib.Core.Path.{◌≡◌, sym, ap, ◌∙◌}
use mathlib.Core.Bool.{Bool, true, false, not}
use mathlib.Core.List.{List}
use native.Mathlib.Omega.{arith}
use lib.Dec.{eqb}
use lib.ListN.{length, get_or, take, drop}
use lib.Seq.{drop-drop}
use Rattle.std.specs.Simd.{first_chunks}
use borrow.Author.Tests.{lt-ltb, eq-eqb, ne_eqb, le-leb, lt-leb, eqb-true, leb-true, not-true, not-false}
use Rattle.basics.specs.Scan.{all}
use Rattle.basics.specs.Nuls.{nul_then_nul}
use Rattle.numbers.specs.Pairs.{pair_at}
use Rattle.basics.proofs.Scan.{all_none, all_more, all-fails, all_done, all-each, all_of}
use Rattle.basics.proofs.Truth.{both_true, false_of, clash}
use Rattle.basics.proofs.Order.{lt-or-ge}
use mathlib.Core.Logic.{⊎_elim}
use Rattle.entries.specs.Entry.{count, entry_at, entries_distinct}
use Rattle.names.specs.Rule.{entry_right, right_at, names_right}
use Rattle.names.specs.Halves.{low_half, high_half, low_right, high_right}

-- the chunks of 32 bytes are the entries
chunk_at : (n k : ℕ) (xs : List ℕ) (i : ℕ) (d : List ℕ) → i < k → get_or (first_chunks n k xs) i d ≡ take n (drop (i * n) xs)
chunk_at n zero xs i d h = absurd (omega arith)
chunk_at n (suc k) xs zero d h = let q : 0 ≡ 0 * n = omega arith in ap (λ (m : ℕ). take n (drop m xs)) q
chunk_at n (suc k) xs (suc i) d h =
    chunk_at n k (drop n xs) i d (omega arith)
    ∙ ap (take n) (drop-drop (i * n) n xs ∙ ap (λ (m : ℕ). drop m xs) (let q : n + i * n ≡ suc i * n = omega arith in q))

pub entry_chunk : (names : List ℕ) (chunks : List (List ℕ)) (i : ℕ) (d : List ℕ) → chunks ≡ first_chunks 32 (count names) names → length chunks ≡ count names
    → i < length chunks → (i < count names) × (get_or chunks i d ≡ entry_at names i)
unfolding entry_at
entry_chunk names chunks i d e n h =
    let l : i < count names = omega (arith, n) in
    let at : get_or chunks i d ≡ entry_at names i = ap (λ (x : List (List ℕ)). get_or x i d) e ∙ chunk_at 32 (count names) names i d l ∙ sym (rw (lt-ltb i (count names) l)) in
    (l, at)

-- a test of each entry
module _ (n : ℕ) (f : ℕ → Bool) where
  pub each_start : all 0 f ≡ true
  each_start = all_none f

  pub each_more : (i : ℕ) (b : Bool) → all i f ≡ true → b ≡ f i → not b ≡ false → all (i + 1) f ≡ true
  each_more i b h e q = all_more f i h (sym e ∙ not-false b q)

  pub each-not : (i : ℕ) (b : Bool) → i < n → b ≡ f i → not b ≡ true → false ≡ all n f
  each-not i b l e q = sym (all-fails f n i l (sym e ∙ not-true b q))

  pub each-done : (i : ℕ) → all i f ≡ true → i ≤ n → n ≤ i → true ≡ all n f
  each-done i h l u = sym (all_done f n i h l u)

module _ (names : List ℕ) where
  module _ (i : ℕ) (l : i < count names) (e : List ℕ) (ee : e ≡ entry_at names i) where
    pub low_end : (get_or e 31 0 ≡ 0 → ⊥) → false ≡ all (count names) (low_right names)
    unfolding low_right low_half
    low_end n = sym (all-fails (low_right names) (count names) i l (rw (← ee, ne_eqb (get_or e 31 0) 0 n)))

    module _ (b : Bool) (eb : b ≡ all 16 (pair_at e 0)) (z : get_or e 31 0 ≡ 0) where
      low-is : b ≡ low_right names i
      unfolding low_right low_half
      low-is = eb ∙ sym (rw (← ee, eq-eqb (get_or e 31 0) 0 z))

      pub low-not : not b ≡ true → false ≡ all (count names) (low_right names)
      low-not q = each-not (count names) (low_right names) i b l low-is q

      pub low-more : all i (low_right names) ≡ true → not b ≡ false → all (i + 1) (low_right names) ≡ true
      low-more h q = each_more (count names) (low_right names) i b h low-is q

    pub high_is : (b : Bool) → b ≡ all 16 (pair_at e 15) → b ≡ high_right names i
    unfolding high_right high_half
    high_is b eb = eb ∙ rw (← ee)

  -- an entry is right exactly when both halves are
  module _ (i : ℕ) where
    abbrev e : List ℕ
    e = entry_at names i

    right-pairs : (from : ℕ) → from ≤ 15 → entry_right e ≡ true → all 16 (pair_at e from) ≡ true
    unfolding entry_right pair_at
    right-pairs from u r = all_of (pair_at e from) 16 (λ j l. all-each (nul_then_nul e) 31 (from + j) (both_true (eqb (get_or e 31 0) 0) (all 31 (nul_then_nul e)) r).1 (omega arith))

    right-low : right_at names i ≡ true → low_right names i ≡ true
    unfolding right_at entry_right low_right low_half
    right-low r = rw ((both_true (eqb (get_or e 31 0) 0) (all 31 (nul_then_nul e)) r).0, right-pairs 0 (omega arith) r)

    right-high : right_at names i ≡ true → high_right names i ≡ true
    unfolding right_at high_right high_half
    right-high r = right-pairs 15 (omega arith) r

    halves-right : low_right names i ≡ true → high_right names i ≡ true → right_at names i ≡ true
    unfolding right_at entry_right low_right high_right low_half high_half pair_at
    halves-right a b = rw (ends.0, all_of (nul_then_nul e) 31 (λ j l. ⊎_elim (λ (u : j < 16). low j u) (λ (u : 16 ≤ j). high j u l) (lt-or-ge j 16)))
      where
        ends : (eqb (get_or e 31 0) 0 ≡ true) × (all 16 (pair_at e 0) ≡ true)
        ends = both_true (eqb (get_or e 31 0) 0) (all 16 (pair_at e 0)) a

        low : (j : ℕ) → j < 16 → nul_then_nul e j ≡ true
        low j u = let k : j ≡ 0 + j = omega arith in ap (nul_then_nul e) k ∙ all-each (pair_at e 0) 16 j ends.1 u

        high : (j : ℕ) → 16 ≤ j → j < 31 → nul_then_nul e j ≡ true
        high j u l = let k : j ≡ 15 + (j - 15) = omega arith in ap (nul_then_nul e) k ∙ all-each (pair_at e 15) 16 (j - 15) b (omega arith)

  each : (f : ℕ → Bool) → ((i : ℕ) → right_at names i ≡ true → f i ≡ true) → all (count names) (right_at names) ≡ true → all (count names) f ≡ true
  each f g r = all_of f (count names) (λ i l. g i (all-each (right_at names) (count names) i r l))

  module _ (b : Bool) (e : b ≡ all (count names) (low_right names)) where
    pub entries-low : not b ≡ true → false ≡ all (count names) (right_at names)
    entries-low q = sym (false_of (all (count names) (right_at names)) (λ r. clash (e ∙ each (low_right names) right-low r) (not-true b q)))

    pub entries-high : (r : Bool) → not b ≡ false → r ≡ all (count names) (high_right names) → r ≡ all (count names) (right_at names)
    entries-high r q er = go r er
      where
        go : (r : Bool) → r ≡ all (count names) (high_right names) → r ≡ all (count names) (right_at names)
        go true k =
            sym
            (all_of (right_at names) (count names)
            (λ i l. halves-right i (all-each (low_right names) (count names) i (sym e ∙ not-false b q) l) (all-each (high_right names) (count names) i (sym k) l)))
        go false k = sym (false_of (all (count names) (right_at names)) (λ t. clash (each (high_right names) right-high t) (sym k)))

pub ruleset entries_laws = (entries-low, entries-high)

-- the list
module _ (names : List ℕ) where
  pub names-cut : (length names % 32 ≡ 0 → ⊥) → false ≡ names_right names
  unfolding names_right
  names-cut n = sym (rw (ne_eqb _ 0 n))

  module _ (e : length names % 32 ≡ 0) where
    pub names-none : count names < 1 → false ≡ names_right names
    unfolding names_right
    names-none h = sym (rw (eq-eqb _ 0 e, lt-leb 1 (count names) h))

    module _ (l : 1 ≤ count names) where
      pub names-many : 512 < count names → false ≡ names_right names
      unfolding names_right
      names-many h = sym (rw (eq-eqb _ 0 e, le-leb 1 (count names) l, lt-leb (count names) 512 h))

      module _ (u : count names ≤ 512) (b : Bool) (eb : b ≡ all (count names) (right_at names)) where
        pub names-broken : not b ≡ true → false ≡ names_right names
        unfolding names_right
        names-broken q = sym (rw (eq-eqb _ 0 e, le-leb 1 (count names) l, le-leb (count names) 512 u, ← eb, not-true b q))

        pub names-rest : (r : Bool) → not b ≡ false → r ≡ entries_distinct names → r ≡ names_right names
        unfolding names_right
        names-rest r q f = f ∙ sym (rw (eq-eqb _ 0 e, le-leb 1 (count names) l, le-leb (count names) 512 u, ← eb, not-false b q))

pub ruleset names_laws = (names-cut, names-none, names-many, names-broken, names-rest)

-- what a right list gives
pub record Right (names : List ℕ) : Type 0 where
  pub whole : length names % 32 ≡ 0
  pub some : 1 ≤ count names
  pub few : count names ≤ 512
  pub each : (i : ℕ) → i < count names → entry_right (entry_at names i) ≡ true
  pub apart : entries_distinct names ≡ true

pub right-means : (names : List ℕ) → names_right names ≡ true → Right names
unfolding names_right right_at
right-means names h =
    let a = both_true _ _ h in
    let b = both_true _ _ a.1 in
    let c = both_true _ _ b.1 in
    let d = both_true _ _ c.1 in
    record {
      whole = eqb-true _ 0 a.0;
      some = leb-true 1 _ b.0;
      few = leb-true _ 512 c.0;
      each = λ i l. all-each (right_at names) (count names) i d.0 l;
      apart = d.1;
    }

-- after a NUL of a right entry come NULs only
pub nul-after : (e : List ℕ) → entry_right e ≡ true → (k n : ℕ) → get_or e k 0 ≡ 0 → k + n < 32 → get_or e (k + n) 0 ≡ 0
unfolding entry_right nul_then_nul
nul-after e h k zero z u = let p : k + 0 ≡ k = omega arith in ap (λ (x : ℕ). get_or e x 0) p ∙ z
nul-after e h k (suc n) z u =
    let p : k + suc n ≡ k + n + 1 = omega arith in
    let q = nul-after e h k n z (omega arith) in
    let pairs = (both_true (eqb (get_or e 31 0) 0) (all 31 (nul_then_nul e)) h).1 in
    ap (λ (x : ℕ). get_or e x 0) p ∙ eqb-true _ 0 (rw (eq-eqb _ 0 q) at (all-each (nul_then_nul e) 31 (k + n) pairs (omega arith)))
