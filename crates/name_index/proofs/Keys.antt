-- Laws of the chains: which entries share one, and how the tables are filled.
use Prim.Native.Nat.{ℕ, zero, suc, ◌+◌, ◌-◌, ◌*◌, ◌≤◌, ◌<◌}
use mathlib.Core.Path.{◌≡◌, refl, sym, ap, ◌∙◌}
use mathlib.Core.Bool.{true, false}
use mathlib.Core.Logic.{⊎_elim}
use mathlib.Core.List.{List}
use native.Mathlib.Omega.{arith}
use lib.Dec.{eqb, leb}
use lib.ListN.{length, get_or, set, length-set, replicate, length-replicate, get_or-replicate}
use lib.Seq.{get_or-set_same, get_or-set_other}
use borrow.Author.Tests.{eq-eqb, eqb-true, le-leb, lt-leb}
use Rattle.basics.proofs.Order.{lt-or-ge}
use Rattle.basics.proofs.Truth.{both_true}
use Rattle.entries.specs.Entry.{count, entry_at}
use Rattle.entries.specs.Length.{name_length, last_byte}
use Rattle.entries.proofs.Entries.{entry-byte, entry_length}
use Rattle.entries.proofs.NameLength.{past-length, last_some, length-le}
use Rattle.names.specs.Search.{agrees}
use Rattle.name_index.specs.Chain.{key_in, key_of, Next, Linked, Cleared}
use Rattle.name_index.specs.Chain.Next.{nowhere, entry}

-- an entry shares the chain of a name exactly if it agrees with it in length and last byte
module _ (names name : List ℕ) (i : ℕ) (h : i < count names) where
  abbrev e : List ℕ
  e = entry_at names i

  pub agrees-key : agrees names name i ≡ true → key_of e ≡ key_of name
  unfolding agrees key_of
  agrees-key a =
      let b = both_true (eqb (name_length e) (name_length name)) (eqb (last_byte e) (last_byte name)) a in
      rw (eqb-true (name_length e) (name_length name) b.0, eqb-true (last_byte e) (last_byte name) b.1)

  -- the last byte of a name, and of an entry without one
  name-last : (m : ℕ) → name_length name ≡ suc m → last_byte name ≡ get_or name m 0
  unfolding last_byte
  name-last m q = let k : name_length name - 1 ≡ m = omega arith in ap (λ (x : ℕ). get_or name x 0) k

  empty-last : name_length e ≡ 0 → last_byte e ≡ 0
  unfolding last_byte
  empty-last q = past-length e (name_length e - 1) (omega arith)

  -- an entry without a name has no length's last byte
  named-last : last_byte e ≡ last_byte name → (m : ℕ) → name_length name ≡ suc m → name_length e ≡ 0 → ⊥
  named-last l m q z = last_some name m q (sym (name-last m q) ∙ sym l ∙ empty-last z)

  module _ (n : ℕ) (en : n ≡ name_length name) (p : 0 < n) (u : n ≤ 32) (k : key_of e ≡ key_of name) where
    key-last : last_byte e ≡ last_byte name
    unfolding key_of
    key-last = omega (arith, k)

    key-length : name_length e ≡ name_length name
    unfolding key_of
    key-length = go (name_length name) refl
      where
        go : (m : ℕ) → name_length name ≡ m → name_length e ≡ name_length name
        go zero q = omega arith
        go (suc m) q =
            ⊎_elim
            (λ (l : name_length e < 1). absurd (named-last key-last m q (omega arith)))
            (λ (l : 1 ≤ name_length e). let v = length-le e in let w = entry_length names i h in omega (arith, k))
            (lt-or-ge (name_length e) 1)

    pub key-agrees : agrees names name i ≡ true
    unfolding agrees
    key-agrees = rw (eq-eqb (name_length e) (name_length name) key-length, eq-eqb (last_byte e) (last_byte name) key-last)

-- the chain of an entry, as it is read
module _ (names : List ℕ) (i : ℕ) (h : i < count names) (n : ℕ) (en : n ≡ name_length (entry_at names i)) where
  pub key-empty : n ≡ 0 → 0 ≡ key_of (entry_at names i)
  unfolding key_of
  key-empty z = let l = empty-last names (entry_at names i) i h (sym en ∙ z) in sym (rw (l, sym en ∙ z))

  pub key-some : (n ≡ 0 → ⊥) → (r : ℕ) → r ≡ key_in n (get_or names (i * 32 + (n - 1)) 0) → r ≡ key_of (entry_at names i)
  unfolding key_of last_byte
  key-some d r er =
      let most : n ≤ 32 = omega (arith, length-le (entry_at names i), entry_length names i h) in
      let b : get_or names (i * 32 + (n - 1)) 0 ≡ get_or (entry_at names i) (n - 1) 0 = sym (entry-byte names i h (n - 1) (below n d most)) in
      er ∙ rw (b, en)
    where
      below : (n : ℕ) → (n ≡ 0 → ⊥) → n ≤ 32 → n - 1 < 32
      below zero d l = absurd (d refl)
      below (suc n) d l = omega arith

  pub key-inside : (n ≡ 0 → ⊥) → i * 32 + (n - 1) < length names
  key-inside d = omega (arith, length-le (entry_at names i), entry_length names i h)

-- one entry more at the front of its chain
module _ (names : List ℕ) (from key : ℕ) (h : from < count names) where
  next_here : key_of (entry_at names from) ≡ key → Next names key from (suc from)
  next_here e = entry from (omega arith) h e (λ j l u. absurd (omega arith))

  next_past : (key_of (entry_at names from) ≡ key → ⊥) → (p : ℕ) → Next names key (suc from) p → Next names key from p
  next_past d _ (nowhere none) =
      nowhere
      (λ j l u. ⊎_elim (λ (v : from < j). none j (omega arith) u) (λ (v : j ≤ from). let q : from ≡ j = omega arith in λ k. d (rw (← q) at k)) (lt-or-ge from j))
  next_past d _ (entry i l u k none) =
      entry i (omega arith) u k
      (λ j a b. ⊎_elim (λ (v : from < j). none j (omega arith) b) (λ (v : j ≤ from). let q : from ≡ j = omega arith in λ k2. d (rw (← q) at k2)) (lt-or-ge from j))

-- the tables from one entry on
module _ (names head links : List ℕ) where
  pub linked-start : (n : ℕ) → n ≡ count names → n ≤ 512 → Cleared head → length links ≡ 512 → Linked names head links n
  linked-start n en l c k = record {
    heads = λ key u. rw (c.each key u) (nowhere (λ j a b. absurd (omega arith)));
    linked = λ i a b. absurd (omega arith);
    head-length = c.size;
    links-length = k;
    few = omega arith;
  }

  module _ (m i key : ℕ) (em : m ≡ i + 1) (l : m ≤ count names) (ek : key ≡ key_of (entry_at names i)) (u : key < 8192)
      (t : Linked names head links m) where
    abbrev table : List ℕ
    table = set links i (get_or head key 0)

    heads-more : (x : ℕ) → x < 8192 → Next names x i (get_or (set head key (i + 1)) x 0)
    heads-more x v =
        ⊎_elim
        (λ (lt : x < key). other (λ (q : x ≡ key). omega arith))
        (λ (ge : key ≤ x). ⊎_elim (λ (gt : key < x). other (λ (q : x ≡ key). omega arith)) (λ (le : x ≤ key). here (omega arith)) (lt-or-ge key x))
        (lt-or-ge x key)
      where
        here : x ≡ key → Next names x i (get_or (set head key (i + 1)) x 0)
        here q =
            let s : i + 1 ≡ suc i = omega arith in
            let g : get_or (set head key (i + 1)) key 0 ≡ i + 1 = get_or-set_same head key (i + 1) 0 (let z = t.head-length in omega arith) in
            rw (q, g, s) (next_here names i key (omega arith) (sym ek))

        other : (x ≡ key → ⊥) → Next names x i (get_or (set head key (i + 1)) x 0)
        other d =
            let g : get_or (set head key (i + 1)) x 0 ≡ get_or head x 0 = get_or-set_other head key x (i + 1) 0 d in
            let s : m ≡ suc i = omega arith in
            rw g (next_past names i x (omega arith) (λ q. d (sym (ek ∙ q))) _ ((rw s at t).heads x v))

    links-more : (j : ℕ) → i ≤ j → j < count names → Next names (key_of (entry_at names j)) (suc j) (get_or table j 0)
    links-more j a b =
        ⊎_elim
        (λ (v : i < j). let g : get_or table j 0 ≡ get_or links j 0 = get_or-set_other links i j (get_or head key 0) 0 (λ (q : j ≡ i). omega arith) in rw g (t.linked j (omega arith) b))
        (λ (v : j ≤ i). here (omega arith))
        (lt-or-ge i j)
      where
        here : j ≡ i → Next names (key_of (entry_at names j)) (suc j) (get_or table j 0)
        here q =
            let g : get_or table i 0 ≡ get_or head key 0 = get_or-set_same links i (get_or head key 0) 0 (let z = t.links-length in let y = t.few in omega arith) in
            let s : m ≡ suc i = omega arith in
            rw (q, g, ← ek) ((rw s at t).heads key u)

    pub linked-more : Linked names (set head key (i + 1)) table i
    linked-more =
        record {
          heads = heads-more;
          linked = links-more;
          head-length = length-set head key (i + 1) ∙ t.head-length;
          links-length = length-set links i (get_or head key 0) ∙ t.links-length;
          few = t.few;
        }

  pub linked-done : (i : ℕ) → i ≤ 0 → Linked names head links i → Linked names head links 0
  linked-done i l t = let s : i ≡ 0 = omega arith in rw s at t

-- whether there are too many
pub index-many : (k n : ℕ) → n ≡ k → 512 < n → false ≡ leb k 512
index-many k n e h = sym (lt-leb k 512 (omega arith))

pub index-few : (k n : ℕ) → n ≡ k → n ≤ 512 → true ≡ leb k 512
index-few k n e h = sym (le-leb k 512 (omega arith))

-- a table of zeros leads nowhere
pub cleared-zero : Cleared (replicate 8192 0)
cleared-zero = record { each = λ key l. get_or-replicate 8192 key 0 0 l; size = length-replicate {A = ℕ} 8192 0 }
