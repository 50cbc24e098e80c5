-- Laws of chains: both tables hold values of `last_of`, and a walk along a chain passes every entry of its hash.
use Prim.Native.Nat.{ℕ, zero, suc, ◌+◌, ◌-◌, ◌*◌, ◌<◌, ◌≤◌}
use mathlib.Core.Path.{◌≡◌, refl, sym, ap, ap₂, ◌∙◌}
use mathlib.Core.Bool.{Bool, true, false, not, cond, or-true}
use mathlib.Core.Logic.{⊎_elim}
use mathlib.Core.List.{List}
use native.Mathlib.Numerals.{add-one}
use native.Mathlib.Omega.{arith}
use lib.Dec.{eqb}
use lib.ListN.{length, get_or, set, length-set, replicate, get_or-replicate}
use lib.Seq.{get_or-set_same, get_or-set_other}
use borrow.Author.Tests.{eq-eqb, ne_eqb, eqb-true, eqb-false, not-true, not-false}
use Rattle.basics.specs.Numbers.{u64_at}
use Rattle.basics.specs.Scan.{all}
use Rattle.basics.proofs.Order.{lt-or-ge}
use Rattle.basics.proofs.Scan.{all_none, all_more, all-fails, all_done, all_of}
use Rattle.basics.proofs.Truth.{false_of}
use Rattle.entries.specs.Entry.{count, entry_at, same_entry, is_empty, differs, entry_new, entries_distinct}
use Rattle.entries.specs.Chain.{folded, spread, hash_of, last_of_hash, HeadRight, LinksRight, LinksClear}
use Rattle.entries.proofs.Entries.{entry_length, entry_first, entry-eight, same-equal}

-- the hash as the code computes it
pub spread-folded : (a b c d x r : ℕ) → x ≡ folded a b c d → r ≡ spread x → r ≡ spread (folded a b c d)
spread-folded a b c d x r ex er = er ∙ ap spread ex

module _ (e : List ℕ) where
  hash-all : (a b c d r : ℕ) → a ≡ u64_at e 0 → b ≡ u64_at e 8 → c ≡ u64_at e 16 → d ≡ u64_at e 24
      → r ≡ spread (folded a b c d) → r ≡ hash_of e
  unfolding hash_of
  hash-all a b c d r ea eb ec ed er =
      er ∙ ap spread (ap₂ (λ (g : ℕ → ℕ → ℕ) (y : ℕ). g c y) (ap₂ folded ea eb) ed ∙ ap (λ (z : ℕ). folded (u64_at e 0) (u64_at e 8) z (u64_at e 24)) ec)

-- of an entry in its list
module _ (list : List ℕ) (i : ℕ) (h : i < count list) where
  pub hash-entry : (a b c d r : ℕ) → a ≡ u64_at list (i * 32) → b ≡ u64_at list (i * 32 + 8)
      → c ≡ u64_at list (i * 32 + 16) → d ≡ u64_at list (i * 32 + 24) → r ≡ spread (folded a b c d) → r ≡ hash_of (entry_at list i)
  hash-entry a b c d r ea eb ec ed er =
      let at : (p k : ℕ) → p + 8 ≤ 32 → i * 32 + p ≡ k → u64_at list k ≡ u64_at (entry_at list i) p = λ p k l e. sym (entry-eight list i h p k l e) in
      hash-all (entry_at list i) a b c d r
      (ea ∙ at 0 (i * 32) (omega arith) (omega arith))
      (eb ∙ at 8 (i * 32 + 8) (omega arith) refl)
      (ec ∙ at 16 (i * 32 + 16) (omega arith) refl)
      (ed ∙ at 24 (i * 32 + 24) (omega arith) refl)
      er

-- entries of other hashes differ
differ-hash : (list : List ℕ) (i k : ℕ) → i < count list → k < count list → (hash_of (entry_at list k) ≡ hash_of (entry_at list i) → ⊥) → differs list i k ≡ true
unfolding differs
differ-hash list i k hi hk n =
    rw
    (false_of (same_entry (entry_at list i) (entry_at list k))
    (λ e. n (ap hash_of (sym (same-equal (entry_at list i) (entry_at list k) (entry_length list i hi) (entry_length list k hk) e)))))

module _ (list : List ℕ) (h : ℕ) where
  -- none of the hash from the last one to the bound
  pub last_none : (i k : ℕ) → last_of_hash list h i ≤ k → k < i → hash_of (entry_at list k) ≡ h → ⊥
  unfolding last_of_hash
  last_none zero k l u e = omega arith
  last_none (suc i) k l u e =
      ⊎_elim (λ (q : k < i). last_none i k (below (eqb (hash_of (entry_at list i)) h) l) q e) (λ (q : i ≤ k). here q) (lt-or-ge k i)
    where
      here : i ≤ k → ⊥
      here q =
          let ki : i ≡ k = omega arith in
          let l2 : suc i ≤ k = rw (eq-eqb (hash_of (entry_at list i)) h (ap (λ (x : ℕ). hash_of (entry_at list x)) ki ∙ e)) at l in
          omega arith

      below : (b : Bool) → cond b (suc i) (last_of_hash list h i) ≤ k → last_of_hash list h i ≤ k
      below true m = absurd (omega arith)
      below false m = m

  pub last-le : (i : ℕ) → last_of_hash list h i ≤ i
  unfolding last_of_hash
  last-le zero = omega arith
  last-le (suc i) = go (eqb (hash_of (entry_at list i)) h) (last-le i)
    where
      go : (b : Bool) → last_of_hash list h i ≤ i → cond b (suc i) (last_of_hash list h i) ≤ suc i
      go true q = omega arith
      go false q = omega arith

  -- the last one is its own last one, and has the hash
  pub last-fix : (i : ℕ) → last_of_hash list h (last_of_hash list h i) ≡ last_of_hash list h i
  unfolding last_of_hash
  last-fix zero = refl
  last-fix (suc i) = go (eqb (hash_of (entry_at list i)) h) refl (last-fix i)
    where
      go : (b : Bool) → eqb (hash_of (entry_at list i)) h ≡ b → last_of_hash list h (last_of_hash list h i) ≡ last_of_hash list h i
          → last_of_hash list h (cond b (suc i) (last_of_hash list h i)) ≡ cond b (suc i) (last_of_hash list h i)
      go true e q = rw e
      go false e q = q

  pub last-hash : (j : ℕ) → last_of_hash list h (suc j) ≡ suc j → hash_of (entry_at list j) ≡ h
  unfolding last_of_hash
  last-hash j e = go (eqb (hash_of (entry_at list j)) h) refl e
    where
      go : (b : Bool) → eqb (hash_of (entry_at list j)) h ≡ b → cond b (suc j) (last_of_hash list h j) ≡ suc j → hash_of (entry_at list j) ≡ h
      go true q r = eqb-true _ _ q
      go false q r = absurd (let l = last-le j in omega arith)

-- the walk along entry i's chain stands at p: every entry from p on differs
pub record Walk (list : List ℕ) (i p : ℕ) : Type 0 where
  pub inside : p ≤ i
  pub own : last_of_hash list (hash_of (entry_at list i)) p ≡ p
  pub differ : (k : ℕ) → p ≤ k → k < i → differs list i k ≡ true

module _ (list : List ℕ) (i : ℕ) (hi : i < count list) where
  pub walk_start : (p : ℕ) → p ≡ last_of_hash list (hash_of (entry_at list i)) i → Walk list i p
  walk_start p e = record {
    inside = omega (arith, last-le list (hash_of (entry_at list i)) i);
    own = rw e (last-fix list (hash_of (entry_at list i)) i);
    differ = λ k l u. differ-hash list i k hi (omega arith) (last_none list (hash_of (entry_at list i)) i k (omega arith) u);
  }

  pub walk_end : (p : ℕ) → Walk list i p → p ≡ 0 → true ≡ all i (differs list i)
  walk_end p w e = sym (all_of (differs list i) i (λ k l. w.differ k (omega arith) l))

  pub walk_same : (j : ℕ) (b : Bool) → j < i → b ≡ same_entry (entry_at list i) (entry_at list j) → b ≡ true → false ≡ all i (differs list i)
  unfolding differs
  walk_same j b l e q = sym (all-fails (differs list i) i j l (rw (← e, q)))

  module _ (p j q : ℕ) (links : List ℕ) (w : Walk list i p) (np : p ≡ 0 → ⊥) (ej : j ≡ p - 1) (eq : q ≡ get_or links j 0) (nr : LinksRight list links i) where
    suc-j : p ≡ suc j
    suc-j = positive p np ej
      where
        positive : (p : ℕ) → (p ≡ 0 → ⊥) → j ≡ p - 1 → p ≡ suc j
        positive zero n e = absurd (n refl)
        positive (suc p) n e = omega arith

    link-is : q ≡ last_of_hash list (hash_of (entry_at list i)) j
    link-is =
        eq ∙ nr j (let s = suc-j in let l = w.inside in omega arith)
        ∙ ap (λ (x : ℕ). last_of_hash list x j) (last-hash list (hash_of (entry_at list i)) j (rw suc-j at w).own)

    pub walk-less : q < p
    walk-less = let s = suc-j in let n = link-is in let l = last-le list (hash_of (entry_at list i)) j in omega arith

    pub walk-next : (b : Bool) → b ≡ same_entry (entry_at list i) (entry_at list j) → b ≡ false → Walk list i q
    unfolding differs
    walk-next b e f = record {
      inside = let l = walk-less in let m = w.inside in omega arith;
      own = rw link-is (last-fix list (hash_of (entry_at list i)) j);
      differ = λ k l u. ⊎_elim (λ (h : k < j). low k l u h) (λ (h : j ≤ k). high k u h) (lt-or-ge k j);
    }
      where
        low : (k : ℕ) → q ≤ k → k < i → k < j → differs list i k ≡ true
        low k l u h = differ-hash list i k hi (omega arith) (last_none list (hash_of (entry_at list i)) j k (let n = link-is in omega arith) h)

        high : (k : ℕ) → k < i → j ≤ k → differs list i k ≡ true
        high k u h =
            ⊎_elim
            (λ (g : j < k). w.differ k (let s = suc-j in omega arith) u)
            (λ (g : k ≤ j). let kj : k ≡ j = omega arith in rw (kj, ← e, f))
            (lt-or-ge j k)

-- one entry more in each table
module _ (list : List ℕ) (i h : ℕ) (eh : h ≡ hash_of (entry_at list i)) where
  links-more : (start : ℕ) (links : List ℕ) → LinksRight list links i → i < length links → start ≡ last_of_hash list h i → LinksRight list (set links i start) (i + 1)
  links-more start links nr l es j u =
      ⊎_elim
      (λ (q : j < i). get_or-set_other links i j start 0 (λ (e : j ≡ i). omega arith) ∙ nr j q)
      (λ (q : i ≤ j). here (omega arith))
      (lt-or-ge j i)
    where
      here : j ≡ i → get_or (set links i start) j 0 ≡ last_of_hash list (hash_of (entry_at list j)) j
      here e = rw e (get_or-set_same links i start 0 l ∙ es ∙ ap (λ (x : ℕ). last_of_hash list x i) eh)

  -- one that is the first of its chain needs no link
  links-first : (links : List ℕ) → LinksRight list links i → get_or links i 0 ≡ 0 → last_of_hash list h i ≡ 0 → LinksRight list links (i + 1)
  links-first links nr z s j u = ⊎_elim (λ (q : j < i). nr j q) (λ (q : i ≤ j). here (omega arith)) (lt-or-ge j i)
    where
      here : j ≡ i → get_or links j 0 ≡ last_of_hash list (hash_of (entry_at list j)) j
      here e = rw e (z ∙ sym s ∙ ap (λ (x : ℕ). last_of_hash list x i) eh)

  head_more : (head : List ℕ) → HeadRight list head i → length head ≡ 1024 → HeadRight list (set head h (i + 1)) (i + 1)
  unfolding last_of_hash
  head_more head hr l x u = rw (add-one i) (go (eqb (hash_of (entry_at list i)) x) refl)
    where
      go : (b : Bool) → eqb (hash_of (entry_at list i)) x ≡ b → get_or (set head h (suc i)) x 0 ≡ cond b (suc i) (last_of_hash list x i)
      go true e = let hx : x ≡ h = sym (eqb-true _ _ e) ∙ sym eh in rw hx (get_or-set_same head h (suc i) 0 (omega arith))
      go false e = get_or-set_other head h x (suc i) 0 (λ (q : x ≡ h). eqb-false _ _ e (sym (q ∙ eh))) ∙ hr x u

pub head-zero : (list : List ℕ) → HeadRight list (replicate 1024 0) 0
unfolding last_of_hash
head-zero list h l = get_or-replicate 1024 h 0 0 l

pub links-zero : LinksClear (replicate 512 0) 0
links-zero j l u = get_or-replicate 512 j 0 0 u

-- an entry that is the first of its chain is new
first-new : (list : List ℕ) (i : ℕ) → i < count list → last_of_hash list (hash_of (entry_at list i)) i ≡ 0 → entry_new list i ≡ true
unfolding entry_new
first-new list i h z = rw (← walk_end list i h 0 (walk_start list i h 0 (sym z)) refl) (or-true (is_empty (entry_at list i)))

-- the tables hold the chains of the entries below i, all of which are new
pub record Linked (list head links : List ℕ) (i : ℕ) : Type 0 where
  pub heads : HeadRight list head i
  pub linked : LinksRight list links i
  pub clear : LinksClear links i
  pub new : all i (entry_new list) ≡ true
  pub head-length : length head ≡ 1024
  pub links-length : length links ≡ 512

pub linked-start : (list head links : List ℕ) → HeadRight list head 0 → LinksClear links 0 → length head ≡ 1024 → length links ≡ 512 → Linked list head links 0
linked-start list head links h c l k = record {
  heads = h;
  linked = λ j u. absurd (omega arith);
  clear = c;
  new = all_none (entry_new list);
  head-length = l;
  links-length = k;
}

module _ (list head links : List ℕ) (i h : ℕ) (l : Linked list head links i) (e : h ≡ hash_of (entry_at list i)) (v : h < 1024) where
  -- where the chain of entry i starts
  pub linked-place : get_or head h 0 ≡ last_of_hash list (hash_of (entry_at list i)) i
  linked-place = l.heads h v ∙ ap (λ (x : ℕ). last_of_hash list x i) e

  pub linked-first : i < count list → i < 512 → get_or head h 0 ≡ 0 → Linked list (set head h (i + 1)) links (i + 1)
  linked-first u w z = record {
    heads = head_more list i h e head l.heads l.head-length;
    linked = links-first list i h e links l.linked (l.clear i (omega arith) w) (sym (l.heads h v) ∙ z);
    clear = λ j q y. l.clear j (omega arith) y;
    new = all_more (entry_new list) i l.new (first-new list i u (sym linked-place ∙ z));
    head-length = length-set head h (i + 1) ∙ l.head-length;
    links-length = l.links-length;
  }

  pub linked-more : (b : Bool) → i < 512 → b ≡ entry_new list i → not b ≡ false → Linked list (set head h (i + 1)) (set links i (get_or head h 0)) (i + 1)
  linked-more b u eb z = record {
    heads = head_more list i h e head l.heads l.head-length;
    linked = links-more list i h e (get_or head h 0) links l.linked (let k = l.links-length in omega arith) (l.heads h v);
    clear = λ j q y. get_or-set_other links i j (get_or head h 0) 0 (λ (x : j ≡ i). omega arith) ∙ l.clear j (omega arith) y;
    new = all_more (entry_new list) i l.new (sym eb ∙ not-false b z);
    head-length = length-set head h (i + 1) ∙ l.head-length;
    links-length = length-set links i (get_or head h 0) ∙ l.links-length;
  }

pub linked-done : (list head links : List ℕ) (i : ℕ) → Linked list head links i → i ≤ count list → count list ≤ i → true ≡ entries_distinct list
unfolding entries_distinct
linked-done list head links i l h u = sym (all_done (entry_new list) (count list) i l.new h u)

-- an entry that is new, and one that is not
module _ (list : List ℕ) (i : ℕ) (h : i < count list) where
  pub new-empty : get_or list (i * 32) 0 ≡ 0 → true ≡ entry_new list i
  unfolding entry_new
  new-empty z = sym (rw (eq-eqb _ 0 (entry_first list i h ∙ z)))

  pub new-some : (r : Bool) → (get_or list (i * 32) 0 ≡ 0 → ⊥) → r ≡ all i (differs list i) → r ≡ entry_new list i
  unfolding entry_new
  new-some r n e = rw (ne_eqb _ 0 (λ (q : get_or (entry_at list i) 0 0 ≡ 0). n (sym (entry_first list i h) ∙ q))) e

  pub distinct-not : (b : Bool) → b ≡ entry_new list i → not b ≡ true → false ≡ entries_distinct list
  unfolding entries_distinct
  distinct-not b e z = sym (all-fails (entry_new list) (count list) i h (sym e ∙ not-true b z))
