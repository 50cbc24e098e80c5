-- Name fields and name lists as document 01 has them (`demands` BoxRules), and the tests by which the code is judged.
--     pairs-field      a field whose last byte is NUL, and where after a NUL comes a NUL, holds a name
--     field-last       the last byte of a field that holds a name is NUL
--     field-pairs      and after a NUL comes a NUL in it
--     unlike-differ    two fields that fail the test of their bytes differ in a byte
--     differ-unlike    two fields that differ in a byte fail it
--     list-exactly     a name list is right exactly when it keeps `NameList`
--     list_counted     N is the count of entries by which the code goes
use Prim.Native.Nat.{ℕ, zero, suc, ◌+◌, ◌*◌, ◌%◌, ◌≤◌, ◌<◌}
use mathlib.Core.Path.{◌≡◌, refl, sym, ap, ◌∙◌}
use mathlib.Core.List.{List}
use mathlib.Core.Bool.{Bool, true, false, ◌&&◌, not, or-true}
use mathlib.Core.Logic.{◌⊎◌, inl, inr, ⊎_elim}
use lib.ListN.{length, get_or}
use lib.Dec.{eqb}
use native.Mathlib.Omega.{arith}
use borrow.Author.Tests.{eq-eqb, ne_eqb, eqb-true, eqb-false, le-leb}
use Rattle.basics.specs.Scan.{all}
use Rattle.basics.specs.Nuls.{nul_then_nul, same_byte}
use Rattle.basics.proofs.Order.{lt-or-ge}
use Rattle.basics.proofs.Scan.{all_of, all-each, all-fails}
use Rattle.basics.proofs.Truth.{false_of, both_true, clash}
use Rattle.entries.specs.Entry.{count, entry_at, same_entry, is_empty, differs, entry_new, entries_distinct}
use Rattle.entries.proofs.Entries.{entry-byte, entry_first, distinct-one}
use Rattle.names.specs.Rule.{entry_right, right_at, names_right}
use Rattle.names.proofs.Rules as N
use Rattle.demands.specs.BoxRules.{NameField, FieldsDiffer, NameList}

-- a list e that has the bytes of the field at a place of s
abbrev pub Holds : List ℕ → List ℕ → ℕ → ℕ → Type 0
Holds e s at width = (j : ℕ) → j < width → get_or e j 0 ≡ get_or s (at + j) 0

-- one field: m bytes and the last
module _ (e s : List ℕ) (at m : ℕ) (same : Holds e s at (m + 1)) where
  module _ (pairs : all m (nul_then_nul e) ≡ true) where
    next : (j : ℕ) → j < m → get_or s (at + j) 0 ≡ 0 → get_or s (at + (j + 1)) 0 ≡ 0
    unfolding nul_then_nul
    next j l z =
        sym (same (j + 1) (omega arith))
        ∙ eqb-true _ 0 (rw (eq-eqb _ 0 (same j (omega arith) ∙ z)) at (all-each (nul_then_nul e) m j pairs l))

    -- the first n bytes: no NUL, or a name and NULs
    upto : (n : ℕ) → n ≤ m + 1 → ((i : ℕ) → i < n → get_or s (at + i) 0 ≡ 0 → ⊥) ⊎ NameField s at n
    upto zero u = inl (λ i l z. omega arith)
    upto (suc n) u = by (upto n (omega arith))
      where
        here : ((i : ℕ) → i < n → get_or s (at + i) 0 ≡ 0 → ⊥) → (t : Bool) → eqb (get_or s (at + n) 0) 0 ≡ t
            → ((i : ℕ) → i < suc n → get_or s (at + i) 0 ≡ 0 → ⊥) ⊎ NameField s at (suc n)
        here f true q =
            inr (record {
              size = n;
              short = omega arith;
              name = f;
              nuls = λ i l r. let k : n ≡ i = omega arith in ap (λ (x : ℕ). get_or s (at + x) 0) (sym k) ∙ eqb-true _ 0 q;
            })
        here f false q =
            inl
            (λ i l z. ⊎_elim
            (λ (r : i < n). f i r z)
            (λ (r : n ≤ i). let k : n ≡ i = omega arith in eqb-false _ 0 q (ap (λ (x : ℕ). get_or s (at + x) 0) k ∙ z))
            (lt-or-ge i n))

        longer : (f : NameField s at n) → (i : ℕ) → f.size ≤ i → i < suc n → get_or s (at + i) 0 ≡ 0
        longer f zero l r = f.nuls 0 l (let h = f.short in omega arith)
        longer f (suc i) l r =
            let h = f.short in
            ⊎_elim
            (λ (q : suc i < n). f.nuls (suc i) l q)
            (λ (q : n ≤ suc i). let k : i + 1 ≡ suc i = omega arith in
            ap (λ (x : ℕ). get_or s (at + x) 0) (sym k) ∙ next i (omega arith) (f.nuls i (omega arith) (omega arith)))
            (lt-or-ge (suc i) n)

        by : ((i : ℕ) → i < n → get_or s (at + i) 0 ≡ 0 → ⊥) ⊎ NameField s at n → ((i : ℕ) → i < suc n → get_or s (at + i) 0 ≡ 0 → ⊥) ⊎ NameField s at (suc n)
        by (inl f) = here f (eqb (get_or s (at + n) 0) 0) refl
        by (inr f) = inr (record { size = f.size; short = let h = f.short in omega arith; name = f.name; nuls = longer f })

    pub pairs-field : eqb (get_or e m 0) 0 ≡ true → NameField s at (m + 1)
    pairs-field z = by (upto (m + 1) (omega arith))
      where
        by : ((i : ℕ) → i < m + 1 → get_or s (at + i) 0 ≡ 0 → ⊥) ⊎ NameField s at (m + 1) → NameField s at (m + 1)
        by (inl f) = absurd (f m (omega arith) (sym (same m (omega arith)) ∙ eqb-true _ 0 z))
        by (inr f) = f

  module _ (f : NameField s at (m + 1)) where
    pub field-last : eqb (get_or e m 0) 0 ≡ true
    field-last = let h = f.short in eq-eqb _ 0 (same m (omega arith) ∙ f.nuls m (omega arith) (omega arith))

    pub field-pairs : all m (nul_then_nul e) ≡ true
    unfolding nul_then_nul
    field-pairs = all_of (nul_then_nul e) m (λ j l. go j l (eqb (get_or e j 0) 0) refl)
      where
        go : (j : ℕ) → j < m → (t : Bool) → eqb (get_or e j 0) 0 ≡ t → nul_then_nul e j ≡ true
        go j l false q = rw q
        go j l true q =
            let z : f.size ≤ j =
            ⊎_elim (λ (r : j < f.size). absurd (f.name j r (sym (same j (omega arith)) ∙ eqb-true _ 0 q))) (λ (r : f.size ≤ j). r) (lt-or-ge j f.size) in
            rw (eq-eqb _ 0 (same (j + 1) (omega arith) ∙ f.nuls (j + 1) (omega arith) (omega arith))) (or-true (not (eqb (get_or e j 0) 0)))

-- two fields
module _ (s d e : List ℕ) (width a b : ℕ) (da : Holds d s a width) (eb : Holds e s b width) where
  pub unlike-differ : all width (same_byte d e) ≡ false → FieldsDiffer s width a b
  unfolding all same_byte
  unlike-differ h = by (search width (omega arith))
    where
      search : (n : ℕ) → n ≤ width → (all n (same_byte d e) ≡ true) ⊎ FieldsDiffer s width a b
      search zero u = inl refl
      search (suc n) u = more (search n (omega arith)) (eqb (get_or d n 0) (get_or e n 0)) refl
        where
          more : (all n (same_byte d e) ≡ true) ⊎ FieldsDiffer s width a b → (t : Bool) → eqb (get_or d n 0) (get_or e n 0) ≡ t
              → (all n (same_byte d e) && eqb (get_or d n 0) (get_or e n 0) ≡ true) ⊎ FieldsDiffer s width a b
          more (inr f) t q = inr f
          more (inl f) true q = inl (rw (f, q))
          more (inl f) false q =
              inr (record { byte = n; inside = omega arith; unlike = λ z. eqb-false _ _ q (da n (omega arith) ∙ z ∙ sym (eb n (omega arith))) })

      by : (all width (same_byte d e) ≡ true) ⊎ FieldsDiffer s width a b → FieldsDiffer s width a b
      by (inl t) = absurd (clash t h)
      by (inr f) = f

  pub differ-unlike : FieldsDiffer s width a b → all width (same_byte d e) ≡ false
  unfolding same_byte
  differ-unlike f =
      all-fails (same_byte d e) width f.byte f.inside
      (ne_eqb _ _ (λ q. f.unlike (sym (da f.byte f.inside) ∙ q ∙ eb f.byte f.inside)))

-- one list
module _ (names : List ℕ) where
  entry-holds : (i : ℕ) → i < count names → Holds (entry_at names i) names (i * 32) 32
  entry-holds i l = entry-byte names i l

  list-means : names_right names ≡ true → NameList names
  unfolding entry_right same_entry
  list-means h =
      let r = N.right-means names h in
      record {
        entries = count names;
        some = r.some;
        few = r.few;
        whole = let w = r.whole in omega arith;
        each = λ i l. let b = both_true (eqb (get_or (entry_at names i) 31 0) 0) (all 31 (nul_then_nul (entry_at names i))) (r.each i l) in
            pairs-field (entry_at names i) names (i * 32) 31 (entry-holds i l) b.1 b.0;
        distinct = λ i j l u x y. unlike-differ names (entry_at names i) (entry_at names j) 32 (i * 32) (j * 32) (entry-holds i (omega arith)) (entry-holds j u)
            (false_of (same_entry (entry_at names i) (entry_at names j))
            (λ q. let named = ne_eqb _ 0 (λ z. x (sym (entry_first names i (omega arith)) ∙ z)) in
            let k : i ≡ j = distinct-one names r.apart i j (omega arith) u named q in
            omega arith));
      }

  module _ (r : NameList names) where
    pub list_counted : count names ≡ r.entries
    list_counted = let w = r.whole in omega arith

    right-at : (i : ℕ) → i < count names → right_at names i ≡ true
    unfolding right_at entry_right
    right-at i l =
        let f = r.each i (rw list_counted at l) in
        rw (field-last (entry_at names i) names (i * 32) 31 (entry-holds i l) f, field-pairs (entry_at names i) names (i * 32) 31 (entry-holds i l) f)

    new-at : (i : ℕ) → i < count names → entry_new names i ≡ true
    unfolding entry_new differs same_entry
    new-at i l = go (is_empty (entry_at names i)) refl
      where
        first-is : (k : ℕ) → k < count names → get_or (entry_at names k) 0 0 ≡ get_or names (k * 32 + 0) 0
        first-is k u = entry-holds k u 0 (omega arith)

        differ : (k : ℕ) → is_empty (entry_at names i) ≡ false → k < i → (t : Bool) → is_empty (entry_at names k) ≡ t → FieldsDiffer names 32 (i * 32) (k * 32)
        differ k e u true q =
            record {
              byte = 0;
              inside = omega arith;
              unlike = λ z. eqb-false _ 0 e (first-is i l ∙ z ∙ sym (first-is k (omega arith)) ∙ eqb-true _ 0 q);
            }
        differ k e u false q =
            let named : get_or names (k * 32) 0 ≡ 0 → ⊥ = λ z. eqb-false _ 0 q (entry_first names k (omega arith) ∙ z) in
            let d = r.distinct k i u (rw list_counted at l) named (λ z. eqb-false _ 0 e (entry_first names i l ∙ z)) in
            record { byte = d.byte; inside = d.inside; unlike = λ z. d.unlike (sym z) }

        apart : (k : ℕ) → is_empty (entry_at names i) ≡ false → k < i → not (same_entry (entry_at names i) (entry_at names k)) ≡ true
        apart k e u =
            let d = differ k e u (is_empty (entry_at names k)) refl in
            rw (differ-unlike names (entry_at names i) (entry_at names k) 32 (i * 32) (k * 32) (entry-holds i l) (entry-holds k (omega arith)) d)

        go : (t : Bool) → is_empty (entry_at names i) ≡ t → entry_new names i ≡ true
        go true e = rw e
        go false e = rw (e, all_of (differs names i) i (λ k u. apart k e u))

    means-list : names_right names ≡ true
    unfolding names_right entries_distinct
    means-list =
        let w : length names % 32 ≡ 0 = let q = r.whole in omega arith in
        let c = list_counted in
        let a : 1 ≤ count names = let q = r.some in omega arith in
        let b : count names ≤ 512 = let q = r.few in omega arith in
        let entries = all_of (right_at names) (count names) right-at in
        let apart = all_of (entry_new names) (count names) new-at in
        rw (eq-eqb _ 0 w, le-leb 1 (count names) a, le-leb (count names) 512 b, entries, apart)

  pub list-exactly : (names_right names ≡ true → NameList names) × (NameList names → names_right names ≡ true)
  list-exactly = (list-means, means-list)
