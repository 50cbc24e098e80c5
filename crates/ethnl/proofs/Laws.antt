-- The laws of the exported functions.
use Prim.Native.Nat.{ℕ, ◌≤◌}
use mathlib.Core.Path.{◌≡◌, refl, sym, ap, ◌∙◌}
use mathlib.Core.List.{List}
use Rattle.word_bytes.specs.Bytes.{Bytes}
use Rattle.normal.specs.Normal as N
use Rattle.std.specs.Prelude.{Option, Some, None, Result, Ok, Err, IfSome}
use native.Mathlib.Omega.{arith}
use Rattle.names.specs.declared.Lookup.{Lookup}
use Rattle.refusal.specs.Refusal.{number_of}
use Rattle.refusal.specs.declared.Refusal.{Refusal}
use Rattle.bit_name.specs.Find.{searched, bit_told, told_of, name_found}
use Rattle.bit_name.proofs.Laws.{searched-bit}
use Rattle.response.specs.Answer.{Outcome, Performs, kind_number, refusal_number}
use Rattle.response.specs.declared.Answer.{Answer}
use Rattle.handler.specs.Bytes.{Stored}
use Rattle.ethnl.specs.Exported.{Normalise, Find, Handle}

module _ (o : N.NormalAnswer) (P Q : List ℕ) (x : Result ℕ Refusal) (h : N.Normalised o P Q x) where
  pub normalise-refused : (why : Refusal) (k : ℕ) → x ≡ Err why → k ≡ number_of why → Normalise o P Q 0 k
  normalise-refused why k q e = record {
    number = e ∙ sym (ap N.number_told q) ∙ h.number;
    count = sym (ap N.count_told q) ∙ h.count;
    page = h.page;
  }

  pub normalise-written : (n : ℕ) → x ≡ Ok n → Normalise o P Q n 0
  normalise-written n q = record {
    number = sym (ap N.number_told q) ∙ h.number;
    count = sym (ap N.count_told q) ∙ h.count;
    page = h.page;
  }

pub ruleset normalise_laws = (normalise-refused, normalise-written)

module _ (names name : List ℕ) (x : Result Lookup Refusal) (e : x ≡ searched names name) where
  told : (y : Result Lookup Refusal) → x ≡ y → told_of y ≡ name_found names name
  unfolding name_found
  told y q = ap told_of (sym q ∙ e)

  pub find-refused : (why : Refusal) (k : ℕ) → x ≡ Err why → k ≡ number_of why → Find (name_found names name) 0 0 k
  find-refused why k q ek = rw (sym (told (Err why) q)) (record { number = ek; bit = refl; count = refl })

  module _ (l : Lookup) (q : x ≡ Ok l) where
    pub find-told : (b : ℕ) → b ≡ bit_told l.bit → Find (name_found names name) b l.compared 0
    find-told b eb = rw (sym (told (Ok l) q)) (record { number = refl; bit = eb; count = refl })

    pub find-fits : IfSome l.bit (λ k. k ≤ 4294967295)
    find-fits = go l.bit refl
      where
        go : (o : Option ℕ) → l.bit ≡ o → IfSome o (λ k. k ≤ 4294967295)
        go None h = tt
        go (Some k) h = let small = searched-bit names name l k (sym e ∙ q) h in omega arith

pub ruleset find_laws = (find-refused, find-told, find-fits)

pub handle-returns : (o : Outcome Stored) (lent stored : Stored) (P Q : List ℕ) (x : Answer) (k f : ℕ) → Bytes lent.settings → Performs o P Q stored x
    → k ≡ kind_number x.kind → f ≡ refusal_number x.kind → Handle o lent stored P Q k f x.next x.place x.written
handle-returns o lent stored P Q x k f bytes a ek ef =
    let e = a.response.result in
    record {
      bytes = bytes;
      kind = ek ∙ ap (λ (y : Answer). kind_number y.kind) e;
      refusal = ef ∙ ap (λ (y : Answer). refusal_number y.kind) e;
      next = ap (λ (y : Answer). y.next) e;
      place = ap (λ (y : Answer). y.place) e;
      count = ap (λ (y : Answer). y.written) e;
      page = a.response.page;
      state = a.state-is;
    }
