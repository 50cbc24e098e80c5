-- Laws of passing entries: one for each need of the loops that pass them.
use Prim.Native.Nat.{ℕ, ◌+◌, ◌-◌, ◌*◌, ◌≤◌, ◌<◌}
use mathlib.Core.Path.{◌≡◌, sym, ap, ◌∙◌}
use mathlib.Core.Bool.{Bool, true, false, ◌&&◌, not}
use mathlib.Core.Logic.{⊎_elim}
use mathlib.Core.List.{List}
use native.Mathlib.Omega.{arith}
use lib.Dec.{eqb}
use lib.ListN.{length, get_or, take, drop, length-take, length-drop}
use lib.Seq.{get_or-take, get_or-drop}
use Rattle.std.specs.Simd.{first_chunks}
use Rattle.entries.specs.Entry.{entry_at}
use Rattle.entries.proofs.Entries.{entry-byte}
use Rattle.names.proofs.Rules.{entry_chunk}
use borrow.Author.Tests.{eqb-false, not-true, not-false}
use Rattle.basics.specs.Scan.{all}
use Rattle.basics.proofs.Order.{lt-or-ge}
use Rattle.basics.proofs.Scan.{all_none, all-plus, all-each}
use Rattle.entries.specs.Entry.{count}
use Rattle.names.specs.Pass.{other_at, Others, NextWith}

module _ (names : List ℕ) (place byte i : ℕ) where
  pub others-start : true ≡ all 0 (other_at names place byte i)
  others-start = sym (all_none (other_at names place byte i))

  others-more : (k : ℕ) (t : Bool) → t ≡ all k (other_at names place byte i)
      → t && not (eqb (get_or names ((i + k) * 32 + place) 0) byte) ≡ all (k + 1) (other_at names place byte i)
  unfolding other_at
  others-more k t e = ap (λ (b : Bool). b && not (eqb (get_or names ((i + k) * 32 + place) 0) byte)) e ∙ sym (all-plus (other_at names place byte i) k)

  -- the entry that follows k of them
  pub others-turn : place < 32 → (n k : ℕ) (chunks : List (List ℕ)) (d : List ℕ) (t : Bool) → chunks ≡ first_chunks 32 (count names) names → length chunks ≡ count names
      → k < length (take n (drop i chunks)) → t ≡ all k (other_at names place byte i)
      → t && not (eqb (get_or (get_or (take n (drop i chunks)) k d) place 0) byte) ≡ all (k + 1) (other_at names place byte i)
  others-turn p n k chunks d t e m h te =
      let l : k < n = omega (arith, h, length-take n (drop i chunks)) in
      let entry = entry_chunk names chunks (i + k) d e m (omega (arith, h, length-take n (drop i chunks), length-drop i chunks)) in
      let here : get_or (take n (drop i chunks)) k d ≡ entry_at names (i + k) = get_or-take n (drop i chunks) k d l ∙ get_or-drop i chunks k d ∙ entry.1 in
      let byte_is : get_or (get_or (take n (drop i chunks)) k d) place 0 ≡ get_or names ((i + k) * 32 + place) 0 =
      ap (λ (x : List ℕ). get_or x place 0) here ∙ entry-byte names (i + k) entry.0 place p in
      rw byte_is (others-more k t te)

  -- of n entries, each by itself
  others-each : (n : ℕ) → all n (other_at names place byte i) ≡ true → (k : ℕ) → i ≤ k → k < i + n → get_or names (k * 32 + place) 0 ≡ byte → ⊥
  unfolding other_at
  others-each n h k l u q =
      let e : i + (k - i) ≡ k = omega arith in
      let d : not (eqb (get_or names ((i + (k - i)) * 32 + place) 0) byte) ≡ true = all-each (other_at names place byte i) n (k - i) h (omega arith) in
      eqb-false (get_or names ((i + (k - i)) * 32 + place) 0) byte (not-true _ d) (ap (λ (x : ℕ). get_or names (x * 32 + place) 0) e ∙ q)

  pub pass-start : i ≤ count names → Others names place byte i i
  pass-start h = record { from = omega arith; inside = h; each = λ k l u. absurd (omega arith) }

-- further on
module _ (names : List ℕ) (place byte i r : ℕ) (o : Others names place byte i r) where
  pub pass-more : (n : ℕ) (b : Bool) → r + n ≤ count names → b ≡ all n (other_at names place byte r) → not b ≡ false → Others names place byte i (r + n)
  pass-more n b h e z = record {
    from = let l = o.from in omega arith;
    inside = h;
    each = λ k l u.
        ⊎_elim (λ (x : k < r). o.each k l x) (λ (x : r ≤ k). others-each names place byte r n (sym e ∙ not-false b z) k x u) (lt-or-ge k r);
  }

  pub pass-one : r < count names → (get_or names (r * 32 + place) 0 ≡ byte → ⊥) → Others names place byte i (r + 1)
  pass-one h d = record {
    from = let l = o.from in omega arith;
    inside = omega arith;
    each = λ k l u. ⊎_elim (λ (x : k < r). o.each k l x) (λ (x : r ≤ k). here k (omega arith)) (lt-or-ge k r);
  }
    where
      here : (k : ℕ) → r ≡ k → get_or names (k * 32 + place) 0 ≡ byte → ⊥
      here k e q = d (ap (λ (x : ℕ). get_or names (x * 32 + place) 0) e ∙ q)

  pub next_here : get_or names (r * 32 + place) 0 ≡ byte → NextWith names place byte i r
  next_here q = record { others = o; has = λ l. q }

  pub next-none : count names ≤ r → NextWith names place byte i (count names)
  next-none h =
      let e : r ≡ count names = let l = o.inside in omega arith in
      record { others = rw e at o; has = λ l. absurd (omega arith) }

pub next-inside : (names : List ℕ) (place byte i r : ℕ) → NextWith names place byte i r → (r ≡ count names → ⊥) → r < count names
next-inside names place byte i r x d =
    ⊎_elim (λ (l : r < count names). l) (λ (l : count names ≤ r). absurd (d (let u = x.others.inside in omega arith))) (lt-or-ge r (count names))
