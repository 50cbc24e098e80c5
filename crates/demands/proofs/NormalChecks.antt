-- Demand 3, the normaliser's number: it refuses by 1 (list), 2 (page), 3 (contents over 32,768 bytes), then 10 to 13 and 18 to 23 "in the
-- handler's order, and then writes nothing".
--     normal-exact              the number is that of the first check, in document 01's order, that does not pass; it is 0 where all pass
--     normal-done-exactly       0 exactly when every check passes
--     normal-refused-exactly    what is not answered by 0 is answered by the first check that does not pass, and nothing is written; and back
--     normal-told               the number is 0, or 1 to 3, or 10 to 13, or 18 to 23
use Prim.Native.Nat.{ℕ, zero, suc, ◌<◌}
use mathlib.Core.Path.{◌≡◌, refl, sym, ap, ◌∙◌}
use mathlib.Core.List.{List}
use mathlib.Core.Bool.{Bool, true, false, not, cond}
use lib.ListN.{length}
use lib.Dec.{ltb}
use native.Mathlib.Omega.{arith}
use Rattle.entries.specs.Entry.{count}
use Rattle.names.specs.Rule.{names_right}
use Rattle.refusal.specs.Refusal.{number_of}
use Rattle.refusal.specs.declared.Refusal.{Refusal}
use Rattle.refusal.specs.declared.Refusal.TheVariants as R
use Rattle.refusal.proofs.Table.{number-above}
use Rattle.bitset_form.specs.Bitset.{Reading}
use Rattle.bitset_form.specs.Bitset.Reading.{refused, accepted}
use Rattle.bitset.specs.Judge.{bitset_reading}
use Rattle.normal.specs.Normal.{NormalAnswer, refused_by, reading_answer, normalised}
use Rattle.response.specs.Answer.{refusal_number}
use Rattle.response.specs.declared.Kind.TheVariants.{Done, Refused}
use Rattle.demands.specs.Check.{Check, first_kind, AllPass, FirstIs}
use Rattle.demands.specs.NormalChecks.{normal_checks, NormalNumber}
use Rattle.demands.specs.NormalChecks.NormalNumber.{none, before, within}
use Rattle.demands.proofs.First.{step, first_done, done_first, first-refused, refused-first}
use Rattle.demands.proofs.Bitset.{kind_of, bitset-first}
use Rattle.demands.proofs.Rows.{Every, OfBitset, first-every, row, weaker, bitset-rows}

module _ (contents names : List ℕ) (room : ℕ) where
  abbrev answer : NormalAnswer
  answer = normalised contents names room

  abbrev checks : List Check
  checks = normal_checks contents names room

  -- the tests of the normaliser as a reading: refused by 1, 2 or 3, else that of the contents
  abbrev judged : Reading
  judged =
      cond (not (names_right names)) (refused R.Box)
      (cond (ltb room 144) (refused R.Page) (cond (ltb 32768 (length contents)) (refused R.Datagram) (bitset_reading contents 0 names)))

  abbrev as_answer : Reading → NormalAnswer
  as_answer x = reading_answer x (count names)

  answer-is : answer ≡ as_answer judged
  unfolding normalised
  answer-is = go (not (names_right names)) (ltb room 144) (ltb 32768 (length contents))
    where
      x : Reading
      x = bitset_reading contents 0 names

      go : (a p l : Bool)
          → cond a (refused_by R.Box) (cond p (refused_by R.Page) (cond l (refused_by R.Datagram) (as_answer x)))
          ≡ as_answer (cond a (refused R.Box) (cond p (refused R.Page) (cond l (refused R.Datagram) x)))
      go true p l = refl
      go false true l = refl
      go false false true = refl
      go false false false = refl

  kind-first : kind_of judged ≡ first_kind Done checks
  unfolding normal_checks
  kind-first =
      let x = bitset_reading contents 0 names in
      let long = ltb 32768 (length contents) in
      step kind_of Done (not (names_right names)) R.Box (refused R.Box) (cond (ltb room 144) (refused R.Page) (cond long (refused R.Datagram) x)) _ refl
      (step kind_of Done (ltb room 144) R.Page (refused R.Page) (cond long (refused R.Datagram) x) _ refl
      (step kind_of Done long R.Datagram (refused R.Datagram) x _ refl (bitset-first contents 0 names)))

  number_is : (x : Reading) → (as_answer x).number ≡ refusal_number (kind_of x)
  number_is (refused why) = refl
  number_is (accepted b) = refl

  pub normal-exact : answer.number ≡ refusal_number (first_kind Done checks)
  normal-exact = ap (λ (o : NormalAnswer). o.number) answer-is ∙ number_is judged ∙ ap refusal_number kind-first

  pub normal-done-exactly : (answer.number ≡ 0 → AllPass checks) × (AllPass checks → answer.number ≡ 0)
  normal-done-exactly = (λ e. go judged refl e, λ a. normal-exact ∙ ap refusal_number (done_first a))
    where
      go : (x : Reading) → judged ≡ x → answer.number ≡ 0 → AllPass checks
      go (accepted b) e z = first_done checks (sym kind-first ∙ ap kind_of e)
      go (refused why) e z =
          absurd (omega (arith, z, ap (λ (o : NormalAnswer). o.number) (answer-is ∙ ap as_answer e), number-above why))

  pub normal-refused-exactly : (0 < answer.number → (why : Refusal) × FirstIs why checks × (answer ≡ refused_by why))
      × ((why : Refusal) → FirstIs why checks → answer ≡ refused_by why)
  normal-refused-exactly = (go judged refl, λ why f. back judged refl why (kind-first ∙ refused-first why f))
    where
      go : (x : Reading) → judged ≡ x → 0 < answer.number → (why : Refusal) × FirstIs why checks × (answer ≡ refused_by why)
      go (refused why) e h = (why, first-refused why checks (sym kind-first ∙ ap kind_of e), answer-is ∙ ap as_answer e)
      go (accepted b) e h = absurd (omega (arith, h, ap (λ (o : NormalAnswer). o.number) (answer-is ∙ ap as_answer e)))

      back : (x : Reading) → judged ≡ x → (why : Refusal) → kind_of judged ≡ Refused why → answer ≡ refused_by why
      back (refused other) e why q =
          let k : Refused other ≡ Refused why = sym (ap kind_of e) ∙ q in
          let same : other ≡ why = cc in
          answer-is ∙ ap as_answer e ∙ ap refused_by same
      back (accepted b) e why q = absurd (let k : Done ≡ Refused why = sym (ap kind_of e) ∙ q in let z : ◌≡◌ {A = ℕ} 0 1 = cc in omega arith)

  abbrev OfNormal : Refusal → Type 0
  OfNormal why = NormalNumber (number_of why)

  rows : Every OfNormal checks
  unfolding normal_checks
  rows =
      row OfNormal _ _ (before (omega arith) (omega arith))
      (row OfNormal _ _ (before (omega arith) (omega arith))
      (row OfNormal _ _ (before (omega arith) (omega arith)) (weaker OfBitset OfNormal (λ why n. within n) (bitset-rows contents 0 names))))

  pub normal-told : NormalNumber answer.number
  normal-told = go answer.number refl
    where
      go : (n : ℕ) → answer.number ≡ n → NormalNumber n
      go zero e = none refl
      go (suc n) e =
          let r = normal-refused-exactly.0 (omega (arith, e)) in
          let is : suc n ≡ number_of r.0 = sym e ∙ ap (λ (o : NormalAnswer). o.number) r.2 in
          rw is (first-every OfNormal r.0 r.1 rows)
