-- Laws of the search: how it goes by entries and bytes, and what it finds in a list whose names are distinct.
use Prim.Native.Nat.{ℕ, zero, suc, ◌+◌, ◌-◌, ◌*◌, ◌≤◌, ◌<◌}
use mathlib.Core.Path.{◌≡◌, refl, sym, ap, subst, ◌∙◌}
use mathlib.Core.Bool.{Bool, true, false, ◌||◌, cond}
use mathlib.Core.Logic.{⊎_elim}
use mathlib.Core.List.{List}
use native.Mathlib.Numerals.{add-one}
use native.Mathlib.Omega.{arith}
use lib.Dec.{eqb, ltb}
use lib.ListN.{length, get_or, take, length-take, get_or-eq_default}
use lib.Seq.{get_or-take, take_all}
use borrow.Author.Tests.{eq-eqb, ne_eqb, lt-ltb, le-ltb, ltb-true, ltb-false, eqb-true, eqb-false}
use Rattle.basics.specs.Numbers.{byte_at}
use Rattle.basics.specs.Scan.{first, tally}
use Rattle.basics.specs.Those.{CountOf}
use Rattle.basics.proofs.Order.{lt-or-ge}
use Rattle.basics.proofs.Scan.{first-none, first_more, first-at, first-is, first_on, tally-none, tally-more, tally-past, tally-flat}
use Rattle.basics.proofs.Those.{tally-counts}
use Rattle.basics.proofs.Truth.{false_of, both_true, clash}
use Rattle.entries.specs.Entry.{count, entry_at, same_entry, is_empty, entries_distinct}
use Rattle.entries.specs.Length.{name_length, last_byte}
use Rattle.entries.proofs.Entries.{entry-byte, entry_length, same_bytes, same_of, distinct-one}
use Rattle.entries.proofs.NameLength.{past-length, length-le, same_length, same-last}
use Rattle.names.specs.Rule.{names_right}
use Rattle.names.specs.Pass.{NextWith}
use Rattle.std.specs.Prelude.{Some, None}
use Rattle.std.proofs.lemmas.Option.{none-some, same_Some}
use Rattle.names.specs.declared.Lookup.{Lookup}
use Rattle.names.specs.Search.{is_entry, no_name, agrees, compared_in, not_sought, not_found, found_at, lookup}
use Rattle.names.proofs.Rules.{right-means}

-- the names that can stand in no list
module _ (name : List ℕ) (b : ℕ) (e : b ≡ byte_at name 0) where
  pub no-empty : b ≡ 0 → true ≡ no_name name
  unfolding no_name byte_at
  no-empty z = sym (rw (eq-eqb (get_or name 0 0) 0 (sym e ∙ z)))

  pub no-long : (b ≡ 0 → ⊥) → ltb 32 (length name) ≡ no_name name
  unfolding no_name byte_at
  no-long z = sym (rw (ne_eqb (get_or name 0 0) 0 (λ q. z (e ∙ q))))

module _ (names name : List ℕ) where
  pub no-name-found : (t : Bool) → t ≡ no_name name → t ≡ true → not_sought ≡ lookup names name
  unfolding lookup
  no-name-found t e h = sym (rw (sym e ∙ h))

  -- none of the entries before i is the name
  abbrev pub NoneBefore : ℕ → Type 0
  NoneBefore i = first i (is_entry names name) ≡ i

-- the entries before i have been passed, and c of them agree with the name
pub record Passed (names name : List ℕ) (i c : ℕ) : Type 0 where
  pub none : NoneBefore names name i
  pub counted : c ≡ compared_in names name i
  pub most : c ≤ i

-- entry i agrees too, and is being compared: c counts it
pub record Comparing (names name : List ℕ) (i c : ℕ) : Type 0 where
  pub none : NoneBefore names name i
  pub counted : c ≡ compared_in names name (i + 1)
  pub most : c ≤ i + 1

-- the bytes of entry i from k on are the name's
pub record SameFrom (names name : List ℕ) (i k : ℕ) : Type 0 where
  pub each : (j : ℕ) → k ≤ j → j < 32 → get_or (entry_at names i) j 0 ≡ get_or name j 0

-- a name that an entry can equal: its length, the place of its last byte, and that byte
pub record Sought (name : List ℕ) (n end last : ℕ) : Type 0 where
  pub named : no_name name ≡ false
  pub short : length name ≤ 32
  pub is : n ≡ name_length name
  pub inside : n ≤ length name
  pub end_is : n ≡ end + 1
  pub byte : last ≡ get_or name end 0

-- it is not empty, and no longer than an entry
can-be-named : (name : List ℕ) → no_name name ≡ false → (get_or name 0 0 ≡ 0 → ⊥) × (length name ≤ 32)
unfolding no_name
can-be-named name = go (is_empty name) refl (ltb 32 (length name)) refl
  where
    go : (u : Bool) → is_empty name ≡ u → (v : Bool) → ltb 32 (length name) ≡ v → u || v ≡ false → (get_or name 0 0 ≡ 0 → ⊥) × (length name ≤ 32)
    go true eu v ev h = absurd (clash refl h)
    go false eu true ev h = absurd (clash refl h)
    go false eu false ev h = (eqb-false (get_or name 0 0) 0 eu, ltb-false 32 (length name) ev)

module _ (name : List ℕ) (t : Bool) (e : t ≡ no_name name) (z : t ≡ false) where
  can-be : no_name name ≡ false
  can-be = sym e ∙ z

  some : (get_or name 0 0 ≡ 0 → ⊥) × (length name ≤ 32)
  some = can-be-named name can-be

  module _ (n : ℕ) (en : n ≡ name_length name) where
    pub name-some : 0 < n
    name-some = go n refl
      where
        go : (m : ℕ) → n ≡ m → 0 < n
        go zero q = absurd (some.0 (past-length name 0 (omega arith)))
        go (suc m) q = omega arith

    pub name-inside : n ≤ length name
    name-inside = omega (arith, length-le name)

    pub sought : Sought name n (n - 1) (get_or name (n - 1) 0)
    sought = record {
      named = can-be;
      short = some.1;
      is = en;
      inside = name-inside;
      end_is = let p = name-some in omega arith;
      byte = refl;
    }

-- which entries agree
module _ (names name : List ℕ) (i : ℕ) (h : i < count names) where
  abbrev entry : List ℕ
  entry = entry_at names i

  -- the name agrees with itself
  pub same-agrees : length name ≤ 32 → is_entry names name i ≡ true → agrees names name i ≡ true
  unfolding is_entry agrees
  same-agrees l s =
      let k : length entry ≤ 32 = omega (arith, entry_length names i h) in
      rw (eq-eqb _ _ (same_length entry name s k l), eq-eqb _ _ (same-last entry name s k l))

  pub other-agrees : length name ≤ 32 → agrees names name i ≡ false → is_entry names name i ≡ false
  other-agrees l f = false_of (is_entry names name i) (λ s. clash (same-agrees l s) f)

  module _ (n end last : ℕ) (w : Sought name n end last) where
    last_of : name_length entry ≡ n → last_byte entry ≡ get_or names (i * 32 + end) 0
    unfolding last_byte
    last_of q = let k : name_length entry - 1 ≡ end = omega arith in ap (λ (x : ℕ). get_or entry x 0) k ∙ entry-byte names i h end (omega arith)

    name-last : last_byte name ≡ last
    unfolding last_byte
    name-last = let k : name_length name - 1 ≡ end = omega arith in ap (λ (x : ℕ). get_or name x 0) k ∙ sym w.byte

    -- another last byte
    pub last-other : (get_or names (i * 32 + end) 0 ≡ last → ⊥) → agrees names name i ≡ false
    unfolding agrees
    last-other d =
        false_of _
        (λ a. let b = both_true (eqb (name_length entry) (name_length name)) (eqb (last_byte entry) (last_byte name)) a in
        d (sym (last_of (eqb-true _ _ b.0 ∙ sym w.is)) ∙ eqb-true _ _ b.1 ∙ name-last))

    -- another length
    pub length-other : (m : ℕ) → m ≡ name_length entry → (m ≡ n → ⊥) → agrees names name i ≡ false
    unfolding agrees
    length-other m em d = rw (ne_eqb (name_length entry) (name_length name) (λ q. d (em ∙ q ∙ sym w.is)))

    pub both-agree : (m : ℕ) → m ≡ name_length entry → m ≡ n → get_or names (i * 32 + end) 0 ≡ last → agrees names name i ≡ true
    unfolding agrees
    both-agree m em q b =
        rw (eq-eqb (name_length entry) (name_length name) (sym em ∙ q ∙ w.is), eq-eqb (last_byte entry) (last_byte name) (last_of (sym em ∙ q) ∙ b ∙ sym name-last))

    -- where an entry agrees, its last byte and the NULs behind are the name's
    pub from_start : agrees names name i ≡ true → SameFrom names name i end
    unfolding agrees last_byte
    from_start a =
        record { each = λ j l v. ⊎_elim (λ (x : j < n). here j (omega arith)) (λ (x : n ≤ j). past-length entry j (omega (arith, lengths)) ∙ sym (past-length name j (omega arith))) (lt-or-ge j n) }
      where
        b : (eqb (name_length entry) (name_length name) ≡ true) × (eqb (get_or entry (name_length entry - 1) 0) (get_or name (name_length name - 1) 0) ≡ true)
        b = both_true (eqb (name_length entry) (name_length name)) (eqb (get_or entry (name_length entry - 1) 0) (get_or name (name_length name - 1) 0)) a

        lengths : name_length entry ≡ name_length name
        lengths = eqb-true _ _ b.0

        here : (j : ℕ) → j ≡ end → get_or entry j 0 ≡ get_or name j 0
        here j q =
            let k : j ≡ name_length entry - 1 = omega (arith, lengths) in
            let k2 : name_length name - 1 ≡ j = omega arith in
            ap (λ (x : ℕ). get_or entry x 0) k ∙ eqb-true _ _ b.1 ∙ ap (λ (x : ℕ). get_or name x 0) k2

    -- one byte more, from the end on
    pub from_more : (m : ℕ) → SameFrom names name i m → 0 < m → m ≤ end → get_or names (i * 32 + (m - 1)) 0 ≡ get_or name (m - 1) 0 → SameFrom names name i (m - 1)
    from_more m s p l e =
        record { each = λ j a v. ⊎_elim (λ (x : j < m). here j (omega arith)) (λ (x : m ≤ j). s.each j x v) (lt-or-ge j m) }
      where
        here : (j : ℕ) → m - 1 ≡ j → get_or entry j 0 ≡ get_or name j 0
        here j q = entry-byte names i h j (omega arith) ∙ (rw q at e)

    from-other : (k : ℕ) → k < end → (get_or names (i * 32 + k) 0 ≡ get_or name k 0 → ⊥) → is_entry names name i ≡ false
    unfolding is_entry
    from-other k l d =
        let u : k < 32 = omega arith in
        false_of (same_entry entry name) (λ s. d (sym (entry-byte names i h k u) ∙ same_bytes entry name k s u))

    -- how the search goes on at entry i
    module _ (c : ℕ) where
      passed-other : Passed names name i c → agrees names name i ≡ false → Passed names name (i + 1) c
      unfolding compared_in
      passed-other p f = record {
        none = first_more (is_entry names name) i p.none (other-agrees w.short f);
        counted = p.counted ∙ sym (tally-past (agrees names name) i f);
        most = let m = p.most in omega arith;
      }

      pub passed_length : Passed names name i c → (m : ℕ) → m ≡ name_length entry → (m ≡ n → ⊥) → Passed names name (i + 1) c
      passed_length p m em d = passed-other p (length-other m em d)

      pub compared-other : Comparing names name i c → (j : ℕ) → j < end → (get_or names (i * 32 + j) 0 ≡ get_or name j 0 → ⊥) → Passed names name (i + 1) c
      compared-other k j l d =
          record { none = first_more (is_entry names name) i k.none (from-other j l d); counted = k.counted; most = k.most }

      pub compared_same : Comparing names name i c → (j : ℕ) → SameFrom names name i j → j ≤ 0 → record { bit = Some i; compared = c } ≡ lookup names name
      unfolding lookup is_entry
      compared_same k m s l =
          let same : same_entry entry name ≡ true = same_of entry name (λ j u. s.each j (omega arith) u) in
          let f : first (count names) (is_entry names name) ≡ i = first-at (is_entry names name) (count names) i h k.none same in
          let q : c ≡ compared_in names name (suc i) = k.counted ∙ ap (compared_in names name) (add-one i) in
          sym (rw (w.named, f, lt-ltb i (count names) h, q))

-- entries that do not agree are passed
pub passed-others : (names name : List ℕ) (i r c : ℕ) → length name ≤ 32 → Passed names name i c → i ≤ r → r ≤ count names
    → ((k : ℕ) → i ≤ k → k < r → agrees names name k ≡ false) → Passed names name r c
unfolding compared_in
passed-others names name i r c short p l u other =
    let e : i + (r - i) ≡ r = omega arith in
    let none : (k : ℕ) → i ≤ k → k < i + (r - i) → agrees names name k ≡ false = λ k a b. other k a (omega arith) in
    record {
      none = subst (NoneBefore names name) e (first_on (is_entry names name) i (r - i) p.none (λ k a b. other-agrees names name k (omega arith) short (none k a b)));
      counted = p.counted ∙ sym (tally-flat (agrees names name) i (r - i) none) ∙ ap (λ (m : ℕ). tally m (agrees names name)) e;
      most = let m = p.most in omega arith;
    }

-- as those up to the next one that has the name's last byte do not
pub passed-next : (names name : List ℕ) (n end last i r c : ℕ) → Sought name n end last → Passed names name i c → NextWith names end last i r → Passed names name r c
passed-next names name n end last i r c w p x =
    let inside = x.others.inside in
    passed-others names name i r c w.short p x.others.from inside
    (λ k l u. last-other names name k (omega arith) n end last w (x.others.each k l u))

-- how the search begins, goes on and ends
module _ (names name : List ℕ) where
  pub passed_start : Passed names name 0 0
  unfolding compared_in
  passed_start = record { none = first-none (is_entry names name); counted = sym (tally-none (agrees names name)); most = omega arith }

  pub passed-agrees : (i c : ℕ) → Passed names name i c → agrees names name i ≡ true → Comparing names name i (c + 1)
  unfolding compared_in
  passed-agrees i c p a = record {
    none = p.none;
    counted = ap (λ (x : ℕ). x + 1) p.counted ∙ sym (tally-more (agrees names name) i a);
    most = let m = p.most in omega arith;
  }

  pub passed-all : (n end last i c : ℕ) → Sought name n end last → Passed names name i c → i ≤ count names → count names ≤ i → record { bit = None; compared = c } ≡ lookup names name
  unfolding lookup
  passed-all n end last i c w p l u =
      let k : i ≡ count names = omega arith in
      let f : first (count names) (is_entry names name) ≡ count names = (rw k at p).none in
      let q : c ≡ compared_in names name (count names) = p.counted ∙ ap (compared_in names name) k in
      sym (rw (w.named, f, le-ltb (count names) (count names) (omega arith), q))

-- what is found is an entry that equals the name
module _ (names name : List ℕ) where
  -- the first entry that equals it, and what is told of it
  abbrev hit : ℕ
  hit = first (count names) (is_entry names name)

  abbrev told : Bool → Bool → Lookup
  told t u = cond t not_sought (cond u (found_at names name hit) (not_found names name))

  -- a bit is told only where an entry equals the name: it is the first of them
  told-hit : (t u : Bool) (k : ℕ) → (told t u).bit ≡ Some k → (t ≡ false) × (u ≡ true) × (hit ≡ k)
  told-hit true u k h = absurd (none-some k h)
  told-hit false true k h = (refl, refl, same_Some hit k h)
  told-hit false false k h = absurd (none-some k h)

  found-hit : (k : ℕ) → (lookup names name).bit ≡ Some k → (no_name name ≡ false) × (ltb hit (count names) ≡ true) × (hit ≡ k)
  unfolding lookup
  found-hit k h = told-hit (no_name name) (ltb hit (count names)) k h

  pub lookup-found : (k : ℕ) → (lookup names name).bit ≡ Some k → (k < count names) × (same_entry (entry_at names k) name ≡ true)
  unfolding is_entry
  lookup-found k h =
      let t = found-hit k h in
      let l = ltb-true hit (count names) t.1 in
      let here : (hit < count names) × (same_entry (entry_at names hit) name ≡ true) = (l, first-is (is_entry names name) (count names) l) in
      rw t.2 at here

  -- and the name is not empty, and no longer than an entry
  pub lookup-named : (k : ℕ) → (lookup names name).bit ≡ Some k → (get_or name 0 0 ≡ 0 → ⊥) × (length name ≤ 32)
  lookup-named k h = can-be-named name (found-hit k h).0

  -- the bit by itself: the length and the last byte have no part in it
  pub lookup-before : (lookup names name).bit ≡ cond (no_name name) None (cond (ltb hit (count names)) (Some hit) None)
  unfolding lookup
  lookup-before = go (no_name name) (ltb hit (count names))
    where
      go : (t u : Bool) → (told t u).bit ≡ cond t None (cond u (Some hit) None)
      go true u = refl
      go false true = refl
      go false false = refl

  -- each entry that is compared agrees in both, each of the first n that agrees is compared, and each counts once
  pub compared-each : (n : ℕ) → CountOf (λ k. agrees names name k ≡ true) n (compared_in names name n)
  unfolding compared_in
  compared-each n = tally-counts (agrees names name) n

  -- how many entries are compared: those up to the hit that agree, or all that agree, or none
  pub lookup-hit : (k : ℕ) → (lookup names name).bit ≡ Some k → (lookup names name).compared ≡ compared_in names name (suc k)
  unfolding lookup
  lookup-hit k h = let t = found-hit k h in rw (t.0, t.1, t.2)

  pub lookup-miss : no_name name ≡ false → (lookup names name).bit ≡ None → (lookup names name).compared ≡ compared_in names name (count names)
  unfolding lookup
  lookup-miss n = go (ltb hit (count names))
    where
      go : (u : Bool) → (told (no_name name) u).bit ≡ None → (told (no_name name) u).compared ≡ compared_in names name (count names)
      go true h = absurd (none-some hit (sym (rw n at h)))
      go false h = rw n

  pub lookup-none : no_name name ≡ true → lookup names name ≡ not_sought
  unfolding lookup
  lookup-none n = rw n

  -- none before k is the name
  none-until : (k : ℕ) → ((j : ℕ) → j < k → is_entry names name j ≡ false) → first k (is_entry names name) ≡ k
  none-until k f =
      let z : 0 + k ≡ k = omega arith in
      rw z at (first_on (is_entry names name) 0 k (first-none (is_entry names name)) (λ j l u. f j (omega arith)))

  -- in a list of distinct names it is the only one: a name that equals entry i is found there
  pub lookup-one : entries_distinct names ≡ true → no_name name ≡ false → (i : ℕ) → i < count names → same_entry (entry_at names i) name ≡ true → lookup names name ≡ found_at names name i
  unfolding lookup is_entry no_name
  lookup-one apart n i h s =
      let f : first (count names) (is_entry names name) ≡ i = first-at (is_entry names name) (count names) i h (none-until i alone) s in
      rw (n, f, lt-ltb i (count names) h)
    where
      alone : (k : ℕ) → k < i → same_entry (entry_at names k) name ≡ false
      alone k l =
          false_of (same_entry (entry_at names k) name)
          (λ e. let z : i ≡ k =
          distinct-one names apart i k h (omega arith) (ap (λ (x : ℕ). eqb x 0) (same_bytes (entry_at names i) name 0 s (omega arith)) ∙ some) (same_of (entry_at names i) (entry_at names k) (λ j u. same_bytes (entry_at names i) name j s u ∙ sym (same_bytes (entry_at names k) name j e u))) in
          omega arith)
        where
          some : is_empty name ≡ false
          some = false_of (is_empty name) (λ e. clash (rw e) n)

-- the name of entry i, with all, some or none of the NULs that follow it, is found there
pub lookup-name : (names : List ℕ) → names_right names ≡ true → (i k : ℕ) → i < count names → is_empty (entry_at names i) ≡ false → 0 < k
    → ((j : ℕ) → k ≤ j → j < 32 → get_or (entry_at names i) j 0 ≡ 0) → lookup names (take k (entry_at names i)) ≡ found_at names (take k (entry_at names i)) i
unfolding no_name
lookup-name names right i k h e p z =
    lookup-one names (take k (entry_at names i)) (right-means names right).apart
    (rw (first ∙ e, le-ltb 32 (length (take k (entry_at names i))) (omega (arith, length-take k (entry_at names i), entry_length names i h))))
    i h (same_of (entry_at names i) (take k (entry_at names i)) bytes)
  where
    first : is_empty (take k (entry_at names i)) ≡ is_empty (entry_at names i)
    first = ap (λ (x : ℕ). eqb x 0) (get_or-take k (entry_at names i) 0 0 p)

    bytes : (j : ℕ) → j < 32 → get_or (entry_at names i) j 0 ≡ get_or (take k (entry_at names i)) j 0
    bytes j l =
        ⊎_elim
        (λ (q : j < k). sym (get_or-take k (entry_at names i) j 0 q))
        (λ (q : k ≤ j). z j q l ∙ sym (get_or-eq_default (take k (entry_at names i)) 0 (omega (arith, length-take k (entry_at names i)))))
        (lt-or-ge j k)

pub lookup-own : (names : List ℕ) → names_right names ≡ true → (i : ℕ) → i < count names → is_empty (entry_at names i) ≡ false → lookup names (entry_at names i) ≡ found_at names (entry_at names i) i
lookup-own names right i h e =
    let whole : take 32 (entry_at names i) ≡ entry_at names i = take_all 32 (entry_at names i) (omega (arith, entry_length names i h)) in
    rw whole at (lookup-name names right i 32 h e (omega arith) (λ j l u. absurd (omega arith)))
