-- The theorems of demand 3, for every set length N, every name list that document 01 allows and every contents, of what the normaliser answers.
--     accepted-exactly   it answers 0 exactly where the list is right, the page has 144 bytes and the contents, at most 32,768 bytes, read as a bitset
--     accepted-writes    and then it writes the normal form of that bitset
--     form-exact         what it writes: SIZE N, VALUE W words, MASK W words, of the mask and the value that document 01 gives
--     form-accepted      what it writes is itself accepted
--     form-stable        and normalising it gives the same bytes
--     keeps-effect       what it writes makes of every starting set what the original makes of it
--     forms-decide       two accepted contents change every starting set alike exactly when the same bytes are written of both
--     refused-unwritten  what is not answered by 0 writes nothing
--     refused-reading    a bitset that is refused in its reading is answered by that refusal's number
use Prim.Native.Nat.{ℕ, ◌≤◌, ◌<◌}
use mathlib.Core.Path.{◌≡◌, refl, sym, ap, ◌∙◌}
use mathlib.Core.List.{List, []}
use mathlib.Core.Bool.{Bool, true, false, not, cond}
use lib.ListN.{length}
use lib.Dec.{ltb}
use native.Mathlib.Omega.{arith}
use borrow.Author.Tests.{le-ltb, ltb-false, not-false}
use Rattle.entries.specs.Entry.{count}
use Rattle.names.specs.Rule.{names_right}
use Rattle.refusal.specs.Refusal.{number_of}
use Rattle.refusal.specs.declared.Refusal.{Refusal}
use Rattle.refusal.specs.declared.Refusal.TheVariants.{Box, Page, Datagram}
use Rattle.refusal.proofs.Table.{number-above}
use Rattle.bitset_form.specs.Bitset.{Bitset, Reading, effect}
use Rattle.bitset_form.specs.Bitset.Reading.{refused, accepted}
use Rattle.bitset.specs.Judge.{bitset_reading}
use Rattle.normal.specs.Normal.{NormalAnswer, normal_form, refused_by, reading_answer, normalised}
use Rattle.normal.specs.Claims.{ActAlike, NormalBytes, Accepts}
use Rattle.normal.proofs.Accepted.{form_bitset, form-bytes, form-read, form-alike, form-again, readings-decide}

-- of any contents, list and page
module _ (contents names : List ℕ) (room : ℕ) where
  abbrev answer : NormalAnswer
  answer = normalised contents names room

  abbrev tests : Bool → Bool → Bool → Reading → NormalAnswer
  tests a p l x = cond a (refused_by Box) (cond p (refused_by Page) (cond l (refused_by Datagram) (reading_answer x (count names))))

  pub accepted-writes : (a : Accepts contents names room) → answer ≡ record { number = 0; bytes = normal_form (count names) a.bitset }
  unfolding normalised
  accepted-writes a = rw (a.right, le-ltb room 144 a.page, le-ltb 32768 (length contents) a.short, a.reads)

  pub accepted-exactly : (answer.number ≡ 0 → Accepts contents names room) × (Accepts contents names room → answer.number ≡ 0)
  unfolding normalised
  accepted-exactly = (
    go (not (names_right names)) (ltb room 144) (ltb 32768 (length contents)) (bitset_reading contents 0 names) refl refl refl refl,
    λ a. ap (λ (o : NormalAnswer). o.number) (accepted-writes a),
  )
    where
      go : (a p l : Bool) (x : Reading) → not (names_right names) ≡ a → ltb room 144 ≡ p → ltb 32768 (length contents) ≡ l
          → bitset_reading contents 0 names ≡ x → (tests a p l x).number ≡ 0 → Accepts contents names room
      go true p l x ea ep el ex z = absurd (omega (arith, z))
      go false true l x ea ep el ex z = absurd (omega (arith, z))
      go false false true x ea ep el ex z = absurd (omega (arith, z))
      go false false false (refused why) ea ep el ex z = absurd (omega (arith, z, number-above why))
      go false false false (accepted b) ea ep el ex z = record {
        right = not-false (names_right names) ea;
        page = ltb-false room 144 ep;
        short = ltb-false 32768 (length contents) el;
        bitset = b;
        reads = ex;
      }

  pub refused-unwritten : 0 < answer.number → answer.bytes ≡ []
  unfolding normalised
  refused-unwritten = go (not (names_right names)) (ltb room 144) (ltb 32768 (length contents)) (bitset_reading contents 0 names)
    where
      go : (a p l : Bool) (x : Reading) → 0 < (tests a p l x).number → (tests a p l x).bytes ≡ []
      go true p l x h = refl
      go false true l x h = refl
      go false false true x h = refl
      go false false false (refused why) h = refl
      go false false false (accepted b) h = absurd (omega (arith, h))

  pub refused-reading : names_right names ≡ true → 144 ≤ room → length contents ≤ 32768 → (why : Refusal)
      → bitset_reading contents 0 names ≡ refused why → answer ≡ record { number = number_of why; bytes = [] }
  unfolding normalised
  refused-reading right page short why e = rw (right, le-ltb room 144 page, le-ltb 32768 (length contents) short, e)

-- the bitset that contents are which are answered by 0
abbrev pub bitset_of : (contents names : List ℕ) (room : ℕ) → (normalised contents names room).number ≡ 0 → Bitset
bitset_of contents names room zero = ((accepted-exactly contents names room).0 zero).bitset

-- of contents that are answered by 0
module _ (contents names : List ℕ) (room : ℕ) (zero : (normalised contents names room).number ≡ 0) where
  abbrev given : Accepts contents names room
  given = (accepted-exactly contents names room).0 zero

  abbrev written : List ℕ
  written = (normalised contents names room).bytes

  written_is : written ≡ normal_form (count names) given.bitset
  written_is = ap (λ (o : NormalAnswer). o.bytes) (accepted-writes contents names room given)

  pub form-exact : NormalBytes (count names) (bitset_of contents names room zero) written
  form-exact = rw written_is (form-bytes names given.right contents given.bitset given.reads)

  pub form-stable : (page : ℕ) → 144 ≤ page → normalised written names page ≡ normalised contents names room
  form-stable page wide =
      ap (λ (l : List ℕ). normalised l names page) written_is
      ∙ form-again names given.right contents given.bitset given.reads page wide
      ∙ sym (accepted-writes contents names room given)

  pub form-accepted : (page : ℕ) → 144 ≤ page → (normalised written names page).number ≡ 0
  form-accepted page wide = ap (λ (o : NormalAnswer). o.number) (form-stable page wide) ∙ zero

  pub keeps-effect : (page : ℕ) (wide : 144 ≤ page)
      → ActAlike (count names) (bitset_of written names page (form-accepted page wide)) (bitset_of contents names room zero)
  keeps-effect page wide s below i =
      ap (λ (b : Bitset). effect b s i) same ∙ form-alike names given.right contents given.bitset given.reads s below i
    where
      again : Accepts written names page
      again = (accepted-exactly written names page).0 (form-accepted page wide)

      inner : {b c : Bitset} → accepted b ≡ accepted c → b ≡ c
      inner e = cc

      same : again.bitset ≡ form_bitset (count names) given.bitset
      same =
          inner
          (sym again.reads ∙ ap (λ (l : List ℕ). bitset_reading l 0 names) written_is
          ∙ form-read names given.right contents given.bitset given.reads)

-- of two contents that are answered by 0, over one name list
module _ (names x y : List ℕ) (room room' : ℕ) (zero : (normalised x names room).number ≡ 0) (zero' : (normalised y names room').number ≡ 0) where
  abbrev alike : Type 0
  alike = ActAlike (count names) (bitset_of x names room zero) (bitset_of y names room' zero')

  abbrev equal : Type 0
  equal = (normalised x names room).bytes ≡ (normalised y names room').bytes

  pub forms-decide : (alike → equal) × (equal → alike)
  forms-decide =
      let a = (accepted-exactly x names room).0 zero in
      let c = (accepted-exactly y names room').0 zero' in
      let decide = readings-decide names a.right x y a.bitset c.bitset a.reads c.reads in (
        λ s. written_is x names room zero ∙ decide.0 s ∙ sym (written_is y names room' zero'),
        λ e. decide.1 (sym (written_is x names room zero) ∙ e ∙ written_is y names room' zero'),
      )
