-- Laws of the search along a chain: the entries before a place are passed, and the next one is the first of the name's chain from there on.
use Prim.Native.Nat.{ℕ, suc, ◌+◌, ◌-◌, ◌≤◌, ◌<◌}
use mathlib.Core.Path.{◌≡◌, refl, ap, subst, ◌∙◌}
use mathlib.Core.Bool.{true}
use mathlib.Core.List.{List}
use native.Mathlib.Omega.{arith}
use lib.ListN.{get_or}
use Rattle.basics.proofs.Truth.{false_of}
use Rattle.entries.specs.Entry.{count, entry_at}
use Rattle.entries.specs.Length.{name_length, last_byte}
use Rattle.std.specs.Prelude.{None}
use Rattle.names.specs.Search.{agrees, lookup}
use Rattle.names.proofs.Search.{Sought, Passed, Comparing, passed-others, passed-agrees, passed_start, passed-all}
use Rattle.name_index.specs.Chain.{key_in, key_of, Next, Linked}
use Rattle.name_index.specs.Chain.Next.{nowhere, entry}
use Rattle.name_index.proofs.Keys.{agrees-key, key-agrees}

-- the search stands before the entry p, counted from 1, and has compared c
pub record Along (names name : List ℕ) (p c : ℕ) : Type 0 where
  pub from : ℕ
  pub within : from ≤ count names
  pub passed : Passed names name from c
  pub next : Next names (key_of name) from p

-- entry i is compared, and then the search stands before p
pub record Looking (names name : List ℕ) (i p c : ℕ) : Type 0 where
  pub here : i < count names
  pub agreed : agrees names name i ≡ true
  pub comparing : Comparing names name i c
  pub next : Next names (key_of name) (suc i) p

module _ (names name : List ℕ) (n end last : ℕ) (w : Sought name n end last) where
  -- entries of other chains are passed
  passed_on : (from m c : ℕ) → Passed names name from c → from + m ≤ count names → ((j : ℕ) → from ≤ j → j < from + m → key_of (entry_at names j) ≡ key_of name → ⊥)
      → Passed names name (from + m) c
  passed_on from m c p l none =
      passed-others names name from (from + m) c w.short p (omega arith) l
      (λ j a b. false_of (agrees names name j) (λ q. none j a b (agrees-key names name j (omega arith) q)))

  name-chain : key_in n last ≡ key_of name
  unfolding key_of last_byte
  name-chain = let q : end ≡ name_length name - 1 = let a = w.is in let b = w.end_is in omega arith in rw (w.byte, q, w.is)

  module _ (head links : List ℕ) (t : Linked names head links 0) where
    pub along-start : (key p : ℕ) → key ≡ key_in n last → key < 8192 → p ≡ get_or head key 0 → Along names name p 0
    along-start key p ek u ep =
        let chain : key ≡ key_of name = ek ∙ name-chain in
        record {
          from = 0;
          within = omega arith;
          passed = passed_start names name;
          next = rw (ep ∙ ap (λ (k : ℕ). get_or head k 0) chain) (t.heads (key_of name) (omega (arith, chain)));
        }

    pub along_look : (p i q c : ℕ) → Along names name p c → (p ≡ 0 → ⊥) → i ≡ p - 1 → q ≡ get_or links i 0 → Looking names name i q (c + 1)
    along_look p i q c a d ei eq = go p a.next d ei
      where
        go : (p : ℕ) → Next names (key_of name) a.from p → (p ≡ 0 → ⊥) → i ≡ p - 1 → Looking names name i q (c + 1)
        go _ (nowhere none) d ei = absurd (d refl)
        go _ (entry k l u key none) d ei =
            let is : i ≡ k = omega arith in
            let at : a.from + (k - a.from) ≡ k = omega arith in
            let on : Passed names name k c = rw at at (passed_on a.from (k - a.from) c a.passed (omega arith) (λ j x y. none j x (omega arith))) in
            let agreed : agrees names name k ≡ true = key-agrees names name k u n w.is (let e = w.end_is in omega arith) (let s = w.short in let m = w.inside in omega arith) key in
            rw is
            (record {
              here = u;
              agreed = agreed;
              comparing = passed-agrees names name k c on agreed;
              next = rw (eq ∙ ap (λ (x : ℕ). get_or links x 0) is) (subst (λ (x : ℕ). Next names x (suc k) (get_or links k 0)) key (t.linked k (omega arith) u));
            })

  pub along-end : (p c : ℕ) → Along names name p c → p ≡ 0 → record { bit = None; compared = c } ≡ lookup names name
  along-end p c a z = go p a.next z
    where
      go : (p : ℕ) → Next names (key_of name) a.from p → p ≡ 0 → record { bit = None; compared = c } ≡ lookup names name
      go _ (entry k l u key none) z = absurd (omega arith)
      go _ (nowhere none) z =
          let at : a.from + (count names - a.from) ≡ count names = let x = a.within in omega arith in
          let all : Passed names name (count names) c = rw at at (passed_on a.from (count names - a.from) c a.passed (omega arith) (λ j x y. none j x (omega arith))) in
          passed-all names name n end last (count names) c w all (omega arith) (omega arith)

  pub along-next : (i p c : ℕ) → Looking names name i p c → Passed names name (i + 1) c → Along names name p c
  along-next i p c k passed = record { from = suc i; within = k.here; passed = (let e : i + 1 ≡ suc i = omega arith in rw e at passed); next = k.next }

pub along-inside : (names name : List ℕ) (p c : ℕ) → Along names name p c → p ≤ count names
along-inside names name p c a = go p a.next
  where
    go : (p : ℕ) → Next names (key_of name) a.from p → p ≤ count names
    go _ (nowhere none) = omega arith
    go _ (entry k l u key none) = u

pub along-most : (names name : List ℕ) (p c : ℕ) → Along names name p c → c ≤ count names
along-most names name p c a = let l = a.within in let m = a.passed.most in omega arith
