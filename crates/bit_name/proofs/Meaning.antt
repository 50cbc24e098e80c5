-- What is told of a name means what the bytes of list and name say.
--     name-told    number, bit and count are as `Told` says, for every list and every name
use Rattle.std.specs.Prelude.{Option, Some, None, Ok}
use Rattle.std.proofs.lemmas.Option.{none-some}
use Prim.Native.Nat.{ℕ, zero, suc, ◌-◌, ◌≤◌, ◌<◌}
use mathlib.Core.Path.{◌≡◌, refl, sym, ap, ◌∙◌}
use mathlib.Core.Bool.{Bool, true, false, not, cond}
use mathlib.Core.Logic.{⊎_elim}
use mathlib.Core.List.{List}
use lib.Dec.{eqb, leb}
use lib.ListN.{length, get_or, get_or-eq_default}
use native.Mathlib.Omega.{arith}
use borrow.Author.Tests.{eq-eqb, ne_eqb, eqb-true, eqb-false, le-leb, leb-true, le-ltb, not-true}
use Rattle.basics.specs.Those.{CountOf}
use Rattle.basics.proofs.Order.{lt-or-ge}
use Rattle.basics.proofs.Those.{count-as}
use Rattle.basics.proofs.Truth.{both_true}
use Rattle.entries.specs.Entry.{count, entry_at, is_empty}
use Rattle.entries.specs.Length.{name_length, last_byte}
use Rattle.entries.proofs.Entries.{entry-byte, entry_length, same_bytes, same_of}
use Rattle.entries.proofs.NameLength.{length-is, past-length}
use Rattle.names.specs.Rule.{names_right}
use Rattle.names.specs.Search.{no_name, agrees, compared_in, not_sought, found_at, lookup}
use Rattle.names.specs.declared.Lookup.{Lookup}
use Rattle.names.proofs.Rules.{right-means}
use Rattle.names.proofs.Search.{lookup-found, lookup-named, lookup-one, compared-each, lookup-hit, lookup-miss, lookup-none}
use Rattle.bit_name.specs.Find.{Found, bare, searched, bit_told, told_of, name_found}
use Rattle.bit_name.specs.Told.{Name, Equals, Agrees, Hit, Missed, Told}

-- what a name without its NUL is
module _ (name : List ℕ) where
  pub name-bare : Name name → bare name ≡ true
  unfolding bare
  name-bare n = rw (le-leb (length name) 31 n.short, ne_eqb (get_or name (length name - 1) 0) 0 n.last)

  pub name-can-be : Name name → no_name name ≡ false
  unfolding no_name
  name-can-be n = rw (ne_eqb (get_or name 0 0) 0 n.first, le-ltb 32 (length name) (let l = n.short in omega arith))

  bare-short : bare name ≡ true → length name ≤ 31
  unfolding bare
  bare-short b = leb-true (length name) 31 (both_true (leb (length name) 31) (not (eqb (get_or name (length name - 1) 0) 0)) b).0

  bare-last : bare name ≡ true → get_or name (length name - 1) 0 ≡ 0 → ⊥
  unfolding bare
  bare-last b = eqb-false _ 0 (not-true _ (both_true (leb (length name) 31) (not (eqb (get_or name (length name - 1) 0) 0)) b).1)

  pub bare-name : bare name ≡ true → (get_or name 0 0 ≡ 0 → ⊥) → Name name
  bare-name b f = record { short = bare-short b; first = f; last = bare-last b }

  name-length : Name name → name_length name ≡ length name
  name-length n =
      length-is name (length name) (λ j l. get_or-eq_default name 0 l)
      (λ k e z. n.last (let q : length name - 1 ≡ k = omega arith in rw q z))

-- agreement by the bytes
module _ (names name : List ℕ) (n : Name name) (k : ℕ) (h : k < count names) where
  abbrev entry : List ℕ
  entry = entry_at names k

  some : 0 < length name
  some = go (length name) refl
    where
      go : (m : ℕ) → length name ≡ m → 0 < length name
      go zero z = absurd (n.first (get_or-eq_default name 0 (omega arith)))
      go (suc m) z = omega arith

  agrees_bytes : agrees names name k ≡ true → Agrees names name k
  unfolding agrees last_byte
  agrees_bytes a = record {
    last =
        let p : name_length entry - 1 ≡ length name - 1 = omega (arith, same) in
        let q : name_length name - 1 ≡ length name - 1 = omega (arith, name-length name n) in
        sym (entry-byte names k h (length name - 1) (let s = n.short in omega arith)) ∙ ap (λ (x : ℕ). get_or entry x 0) (sym p) ∙ eqb-true _ _ b.1 ∙ ap (λ (x : ℕ). get_or name x 0) q;
    behind = λ j l u. sym (entry-byte names k h j u) ∙ past-length entry j (omega (arith, same));
  }
    where
      b : (eqb (name_length entry) (name_length name) ≡ true) × (eqb (get_or entry (name_length entry - 1) 0) (get_or name (name_length name - 1) 0) ≡ true)
      b = both_true (eqb (name_length entry) (name_length name)) (eqb (get_or entry (name_length entry - 1) 0) (get_or name (name_length name - 1) 0)) a

      same : name_length entry ≡ length name
      same = eqb-true _ _ b.0 ∙ name-length name n

  bytes-length : Agrees names name k → name_length entry ≡ length name
  bytes-length a =
      length-is entry (length name)
      (λ j l. ⊎_elim (λ (u : j < 32). entry-byte names k h j u ∙ a.behind j l u) (λ (u : 32 ≤ j). get_or-eq_default entry 0 (omega (arith, entry_length names k h))) (lt-or-ge j 32))
      (λ m e z. n.last (let q : m ≡ length name - 1 = omega arith in sym a.last ∙ sym (entry-byte names k h (length name - 1) (let s = n.short in omega arith)) ∙ (rw q at z)))

  bytes-agree : Agrees names name k → agrees names name k ≡ true
  unfolding agrees last_byte
  bytes-agree a =
      let e = bytes-length a in
      let m = name-length name n in
      rw (eq-eqb (name_length entry) (name_length name) (e ∙ sym m), eq-eqb (get_or entry (name_length entry - 1) 0) (get_or name (name_length name - 1) 0) (ap (λ (x : ℕ). get_or entry (x - 1) 0) e ∙ entry-byte names k h (length name - 1) (let s = n.short in omega arith) ∙ a.last ∙ ap (λ (x : ℕ). get_or name (x - 1) 0) (sym m)))

counted : (names name : List ℕ) → Name name → (upto : ℕ) → upto ≤ count names → CountOf (Agrees names name) upto (compared_in names name upto)
counted names name n upto l =
    count-as (λ k. agrees names name k ≡ true) (Agrees names name) upto _ (λ k u a. agrees_bytes names name n k (omega arith) a) (λ k u a. bytes-agree names name n k (omega arith) a)
    (compared-each names name upto)

module _ (names name : List ℕ) where
  abbrev sought : Lookup
  sought = cond (bare name) (lookup names name) not_sought

  abbrev found : Found
  found = name_found names name

  refused-told : names_right names ≡ false → (found.number ≡ 1) × (found.bit ≡ 0) × (found.compared ≡ 0)
  unfolding name_found searched
  refused-told wrong = (rw wrong, rw wrong, rw wrong)

  right-told : names_right names ≡ true → found ≡ told_of (Ok sought)
  unfolding name_found searched
  right-told right = rw right

  zero_right : found.number ≡ 0 → names_right names ≡ true
  zero_right z = go (names_right names) refl
    where
      go : (t : Bool) → names_right names ≡ t → names_right names ≡ true
      go true e = e
      go false e = absurd (let o = (refused-told e).0 in omega arith)

  empty-no : is_empty name ≡ true → no_name name ≡ true
  unfolding no_name
  empty-no e = rw e

  module _ (z : found.number ≡ 0) where
    bit_is : found.bit ≡ bit_told sought.bit
    bit_is = ap (λ (f : Found). f.bit) (right-told (zero_right z))

    count-is : found.compared ≡ sought.compared
    count-is = ap (λ (f : Found). f.compared) (right-told (zero_right z))

    few : count names ≤ 512
    few = (right-means names (zero_right z)).few

    -- a search that found an entry
    module _ (b : bare name ≡ true) (i : ℕ) (f : (lookup names name).bit ≡ Some i) where
      found-bit : found.bit ≡ i
      found-bit = bit_is ∙ rw (b, f)

      equals : Equals names name found.bit
      equals =
          let l = lookup-found names name i f in
          rw found-bit
          (record {
            inside = l.0;
            bytes = λ j u. sym (entry-byte names i l.0 j u) ∙ same_bytes (entry_at names i) name j l.1 u;
          })

      found-hit : Hit names name found
      found-hit =
          let n : Name name = bare-name name b (lookup-named names name i f).0 in
          let e : found.compared ≡ compared_in names name (suc found.bit) = count-is ∙ rw (b, found-bit) (lookup-hit names name i f) in
          record { name-is = n; is = equals; compared = rw e (counted names name n (suc found.bit) equals.inside) }

    hit : (found.bit ≡ 4294967295 → ⊥) → Hit names name found
    hit d = go (bare name) refl (lookup names name).bit refl
      where
        go : (b : Bool) → bare name ≡ b → (f : Option ℕ) → (lookup names name).bit ≡ f → Hit names name found
        go true eb (Some i) ef = found-hit eb i ef
        go true eb None ef = absurd (d (bit_is ∙ rw (eb, ef)))
        go false eb f ef = absurd (d (bit_is ∙ rw eb))

    -- an entry that is the name is found
    equal-found : Name name → (k : ℕ) → Equals names name k → lookup names name ≡ found_at names name k
    equal-found n k is =
        lookup-one names name (right-means names (zero_right z)).apart (name-can-be name n) k is.inside
        (same_of (entry_at names k) name (λ j u. entry-byte names k is.inside j u ∙ is.bytes j u))

    -- a search that found none
    not_found : found.bit ≡ 4294967295 → bare name ≡ true → (lookup names name).bit ≡ None
    not_found e b = go (lookup names name).bit refl
      where
        go : (f : Option ℕ) → (lookup names name).bit ≡ f → f ≡ None
        go None ef = refl
        go (Some i) ef = absurd (let l = (equals b i ef).inside in omega (arith, few))

    nothing : (b : Bool) → bare name ≡ b → (t : Bool) → is_empty name ≡ t → (Name name → ⊥) → sought.compared ≡ 0
    nothing false eb t et d = rw eb
    nothing true eb true et d = rw (eb, lookup-none names name (empty-no et))
    nothing true eb false et d = absurd (d (bare-name name eb (eqb-false (get_or name 0 0) 0 et)))

    missed : found.bit ≡ 4294967295 → Missed names name found
    missed e = record {
      none = λ n k is. none-some k (sym (not_found e (name-bare name n)) ∙ ap (λ (l : Lookup). l.bit) (equal-found n k is));
      compared = λ n. let b = name-bare name n in
          let q : found.compared ≡ compared_in names name (count names) = count-is ∙ rw b (lookup-miss names name (name-can-be name n) (not_found e b)) in
          rw q (counted names name n (count names) (omega arith));
      no_name = λ d. count-is ∙ nothing (bare name) refl (is_empty name) refl d;
    }

    back : Name name → (k : ℕ) → Equals names name k → found.bit ≡ k
    back n k is = found-bit (name-bare name n) k (ap (λ (x : Lookup). x.bit) (equal-found n k is))

  pub name-told : Told names name found
  name-told = record {
    refused = refused-told;
    right = λ right. ap (λ (f : Found). f.number) (right-told right);
    hit = hit;
    missed = missed;
    back = back;
  }
