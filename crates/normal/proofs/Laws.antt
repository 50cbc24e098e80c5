-- Laws of the normaliser: one for each return.
use Rattle.std.specs.Prelude.{Result, Ok, Err}
use Prim.Native.Nat.{ℕ, ◌≤◌, ◌<◌}
use mathlib.Core.Path.{◌≡◌, refl, sym, ap, ◌∙◌}
use mathlib.Core.List.{List}
use mathlib.Core.Bool.{Bool, true, false, not}
use lib.ListN.{length}
use native.Mathlib.Omega.{arith}
use borrow.Author.Tests.{lt-ltb, le-ltb, not-false}
use Rattle.basics.specs.Put.{put}
use Rattle.basics.proofs.Put.{put-nil}
use Rattle.bits.specs.Set.{words_of}
use Rattle.entries.specs.Entry.{count}
use Rattle.names.specs.Rule.{names_right}
use Rattle.names.proofs.Rules.{right-means}
use Rattle.refusal.specs.declared.Refusal.{Refusal}
use Rattle.refusal.specs.declared.Refusal.TheVariants.{Box, Page, Datagram}
use Rattle.bitset_form.specs.Bitset.{Reading, mask_of, value_of}
use Rattle.bitset_form.specs.Form.{judged_as}
use Rattle.bitset_form.specs.Bitset.Reading.{refused, accepted}
use Rattle.bitset.specs.Judge.{bitset_reading}
use Rattle.bitset_form.specs.declared.Form.{Form}
use Rattle.page.specs.Page.{Wrote}
use Rattle.bitset_write.specs.Form.{form_bytes}
use Rattle.normal.specs.Normal.{normal_form, NormalAnswer, refused_by, reading_answer, reading_result, normal_result, normalised, Normalised}

-- a refusal writes nothing
unwritten : (o : NormalAnswer) (y : Refusal) (P : List ℕ) → o ≡ refused_by y → Normalised o P P (Err y)
unwritten o y P q = rw q (record { number = refl; count = refl; page = sym (put-nil P) })

-- a judged bitset that is refused, and one that is accepted
never : ◌≡◌ {A = ℕ} 0 1 → ⊥
never z = omega arith

reading-refused : (n : ℕ) (x : Reading) (y : Refusal) → judged_as n x ≡ Err y → x ≡ refused y
unfolding judged_as
reading-refused n (refused r) y e = ap refused (cc)
reading-refused n (accepted b) y e = absurd (never (cc))

written : (n : ℕ) (x : Reading) (P Q : List ℕ) (f : Form) (w : ℕ) → judged_as n x ≡ Ok f → Wrote (form_bytes n f.mask f.value) P Q w
    → Normalised (reading_answer x n) P Q (Ok w)
unfolding judged_as normal_form
written n (refused r) P Q f w e h = absurd (never (cc))
written n (accepted b) P Q f w e h = record { number = refl; count = h.count ∙ ap length both; page = h.page ∙ ap (put P) both }
  where
    is : record { mask = words_of 16 (mask_of n b); value = words_of 16 (value_of b) } ≡ f
    is = cc

    both : form_bytes n f.mask f.value ≡ form_bytes n (words_of 16 (mask_of n b)) (words_of 16 (value_of b))
    both = ap (λ (x : Form). form_bytes n x.mask x.value) (sym is)

result_written : (n : ℕ) (x : Reading) (P Q : List ℕ) (f : Form) (w : ℕ) → judged_as n x ≡ Ok f → Wrote (form_bytes n f.mask f.value) P Q w → Ok w ≡ reading_result x n
unfolding judged_as normal_form
result_written n (refused r) P Q f w e h = absurd (never (cc))
result_written n (accepted b) P Q f w e h = ap (λ (k : ℕ). Ok k) (h.count ∙ ap (λ (x : Form). length (form_bytes n x.mask x.value)) (sym is))
  where
    is : record { mask = words_of 16 (mask_of n b); value = words_of 16 (value_of b) } ≡ f
    is = cc

-- the contents judged, and the form written
module _ (contents names P : List ℕ) (j : Result Form Refusal) (ej : j ≡ judged_as (count names) (bitset_reading contents 0 names)) where
  pub put_refused : (y : Refusal) (r : Result ℕ Refusal) → j ≡ Err y → r ≡ Err y
      → Normalised (reading_answer (bitset_reading contents 0 names) (count names)) P P r
  put_refused y r q e =
      rw e
      (unwritten _ y P
      (ap (λ (x : Reading). reading_answer x (count names)) (reading-refused (count names) (bitset_reading contents 0 names) y (sym ej ∙ q))))

  pub put-accepted : (n w : ℕ) (f : Form) (Q : List ℕ) → n ≡ count names → j ≡ Ok f → Wrote (form_bytes n f.mask f.value) P Q w
      → Normalised (reading_answer (bitset_reading contents 0 names) (count names)) P Q (Ok w)
  put-accepted n w f Q en q h = written (count names) (bitset_reading contents 0 names) P Q f w (sym ej ∙ q) (rw en at h)

  pub result-refused : (y : Refusal) (r : Result ℕ Refusal) → j ≡ Err y → r ≡ Err y → r ≡ reading_result (bitset_reading contents 0 names) (count names)
  result-refused y r q e =
      e ∙ sym
      (ap (λ (x : Reading). reading_result x (count names)) (reading-refused (count names) (bitset_reading contents 0 names) y (sym ej ∙ q)))

  pub result-accepted : (n w : ℕ) (f : Form) (Q : List ℕ) → n ≡ count names → j ≡ Ok f → Wrote (form_bytes n f.mask f.value) P Q w
      → Ok w ≡ reading_result (bitset_reading contents 0 names) (count names)
  result-accepted n w f Q en q h = result_written (count names) (bitset_reading contents 0 names) P Q f w (sym ej ∙ q) (rw en at h)

module _ (contents names P : List ℕ) (t : Bool) (et : t ≡ names_right names) where
  pub normal-box : not t ≡ true → Normalised (normalised contents names (length P)) P P (Err Box)
  unfolding normalised
  normal-box z = unwritten _ Box P (rw (← et, z))

  pub normal-few : not t ≡ false → count names ≤ 512
  normal-few z = (right-means names (sym et ∙ not-false t z)).few

  pub result-box : not t ≡ true → Err Box ≡ normal_result contents names (length P)
  unfolding normal_result
  result-box z = rw (← et, z) refl

  module _ (right : not t ≡ false) where
    pub result-page : length P < 144 → Err Page ≡ normal_result contents names (length P)
    unfolding normal_result
    result-page l = rw (← et, right, lt-ltb _ _ l) refl

    pub normal-page : length P < 144 → Normalised (normalised contents names (length P)) P P (Err Page)
    unfolding normalised
    normal-page l = unwritten _ Page P (rw (← et, right, lt-ltb _ _ l))

    module _ (room : 144 ≤ length P) where
      pub normal-long : 32768 < length contents → Normalised (normalised contents names (length P)) P P (Err Datagram)
      unfolding normalised
      normal-long l = unwritten _ Datagram P (rw (← et, right, le-ltb _ _ room, lt-ltb _ _ l))

      pub result-long : 32768 < length contents → Err Datagram ≡ normal_result contents names (length P)
      unfolding normal_result
      result-long l = rw (← et, right, le-ltb _ _ room, lt-ltb _ _ l) refl

      pub result-judged : (r : Result ℕ Refusal) → length contents ≤ 32768 → r ≡ reading_result (bitset_reading contents 0 names) (count names)
          → r ≡ normal_result contents names (length P)
      unfolding normal_result
      result-judged r short e = rw (← et, right, le-ltb _ _ room, le-ltb _ _ short) e

      pub normal-judged : (r : Result ℕ Refusal) (Q : List ℕ) → length contents ≤ 32768 → Normalised (reading_answer (bitset_reading contents 0 names) (count names)) P Q r
          → Normalised (normalised contents names (length P)) P Q r
      unfolding normalised
      normal-judged r Q short h = rw read h
        where
          read : normalised contents names (length P) ≡ reading_answer (bitset_reading contents 0 names) (count names)
          read = rw (← et, right, le-ltb _ _ room, le-ltb _ _ short)

pub ruleset normal_laws = (normal-box, normal-few, normal-page, normal-long, result-box, result-page, result-long)
