-- The handler and the normaliser read a bitset alike. The payload stands in the message m from start to end, the handler reads it there, and
-- the normaliser is given it alone.
--     reading-same     both accept the same bitset, or refuse, the handler's places counted from the start of m
--     accepted-alone   what the handler accepts is accepted alone, so the theorems of demand 3 speak of it
--     normal-is        the normaliser's answer is made of the handler's reading
--     both-accept, accept-back     the handler accepts b: the normaliser answers 0 and writes b's normal form; and back
--     both-refuse, refuse-back     the handler refuses by k: the normaliser refuses by k and writes nothing; and back
--     alike-exactly    two bitsets that the handler accepts change every starting set alike exactly when the normaliser writes the same of both
use Prim.Native.Nat.{ℕ, ◌+◌, ◌-◌, ◌≤◌, ◌<◌}
use mathlib.Core.Path.{◌≡◌, refl, sym, ap, ◌∙◌}
use mathlib.Core.List.{List, [], ◌++◌}
use mathlib.Core.Bool.{true}
use lib.ListN.{length, take}
use lib.Seq.{length-take-le, take-add}
use native.Mathlib.Omega.{arith}
use borrow.Author.Tests.{le-ltb}
use Rattle.entries.specs.Entry.{count}
use Rattle.names.specs.Rule.{names_right}
use Rattle.netlink_attributes.specs.Attributes.{part_of}
use Rattle.netlink_attributes.proofs.Laws.{part_in}
use Rattle.refusal.specs.Refusal.{number_of}
use Rattle.refusal.specs.declared.Refusal.{Refusal}
use Rattle.refusal.proofs.Table.{number-above}
use Rattle.refusal.specs.declared.Refusal.TheVariants.{Box, Page, Datagram, Length, Family, Short, Command, Dump, Permission, Broken, Unlisted, Payload, MissingTop, MissingIn, NoPort, HeaderFlag, UnknownPort, OtherName, Mixed, ShortBitmap, PastLength, UnknownBit, NoBit, TwoBits, NotOffered, LongReply}
use Rattle.bitset_form.specs.Bitset.{Bitset, Reading}
use Rattle.bitset_form.specs.Bitset.Reading.{refused, accepted}
use Rattle.bitset.specs.Judge.{bitset_reading}
use Rattle.normal.specs.Normal.{NormalAnswer, normal_form, reading_answer, normalised}
use Rattle.normal.specs.Claims.{ActAlike}
use Rattle.normal.proofs.Accepted.{readings-decide}
use Rattle.bitset_moved.specs.Moved.{moved, moved_reading}
use Rattle.bitset_moved.proofs.Bitset.{reading-moved}

-- a number says nothing of a place
pub number-kept : (by : ℕ) (why : Refusal) → number_of (moved by why) ≡ number_of why
number-kept by Box = refl
number-kept by Page = refl
number-kept by Datagram = refl
number-kept by Length = refl
number-kept by Family = refl
number-kept by Short = refl
number-kept by Command = refl
number-kept by Dump = refl
number-kept by Permission = refl
number-kept by (Broken at) = refl
number-kept by (Unlisted at) = refl
number-kept by (Payload at) = refl
number-kept by (MissingTop kind) = refl
number-kept by (MissingIn kind nest) = refl
number-kept by (NoPort at) = refl
number-kept by (HeaderFlag at) = refl
number-kept by (UnknownPort at) = refl
number-kept by (OtherName at) = refl
number-kept by (Mixed at) = refl
number-kept by (ShortBitmap at) = refl
number-kept by (PastLength at) = refl
number-kept by (UnknownBit at) = refl
number-kept by (NoBit at) = refl
number-kept by (TwoBits at) = refl
number-kept by (NotOffered at) = refl
number-kept by LongReply = refl

-- so the normaliser's answer is the same wherever the contents stand
answer-kept : (by n : ℕ) (x : Reading) → reading_answer (moved_reading by x) n ≡ reading_answer x n
answer-kept by n (refused why) = ap (λ (k : ℕ). record { number = k; bytes = [] }) (number-kept by why)
answer-kept by n (accepted b) = refl

behind : (pre c names : List ℕ) (start : ℕ) → length pre ≡ start → bitset_reading (pre ++ c) start names ≡ moved_reading start (bitset_reading c 0 names)
behind pre c names start e = rw (← e) (reading-moved pre c names)

module _ (m names : List ℕ) (start end : ℕ) (order : start ≤ end) (inside : end ≤ length m) where
  seam : part_of m 0 end ≡ take start m ++ part_of m start end
  seam =
      let k : end - 0 ≡ start + (end - start) = omega arith in
      sym (part_in m 0 end (omega arith) inside)
      ∙ ap (λ (n : ℕ). take n m) k
      ∙ take-add start (end - start) m
      ∙ ap (λ (s : List ℕ). take start m ++ s) (part_in m start end order inside)

  pub reading-same : bitset_reading (part_of m 0 end) start names ≡ moved_reading start (bitset_reading (part_of m start end) 0 names)
  reading-same =
      ap (λ (s : List ℕ). bitset_reading s start names) seam
      ∙ behind (take start m) (part_of m start end) names start (length-take-le start m (omega arith))

  -- what the handler accepts is accepted alone: the theorems of demand 3 speak of it
  pub accepted-alone : (b : Bitset) → bitset_reading (part_of m 0 end) start names ≡ accepted b → bitset_reading (part_of m start end) 0 names ≡ accepted b
  accepted-alone b e = go (bitset_reading (part_of m start end) 0 names) (sym reading-same ∙ e)
    where
      go : (x : Reading) → moved_reading start x ≡ accepted b → x ≡ accepted b
      go (accepted c) q = q
      go (refused why) q = absurd (let z : ◌≡◌ {A = ℕ} 0 1 = cc in omega arith)

  module _ (right : names_right names ≡ true) (room : ℕ) (page : 144 ≤ room) (short : length (part_of m start end) ≤ 32768) where
    abbrev handler : Reading
    handler = bitset_reading (part_of m 0 end) start names

    abbrev normal : NormalAnswer
    normal = normalised (part_of m start end) names room

    pub normal-is : normal ≡ reading_answer handler (count names)
    unfolding normalised
    normal-is =
        rw (right, le-ltb room 144 page, le-ltb 32768 (length (part_of m start end)) short, reading-same)
        (sym (answer-kept start (count names) (bitset_reading (part_of m start end) 0 names)))

    pub both-accept : (b : Bitset) → handler ≡ accepted b → normal ≡ record { number = 0; bytes = normal_form (count names) b }
    both-accept b e = normal-is ∙ ap (λ (x : Reading). reading_answer x (count names)) e

    pub both-refuse : (why : Refusal) → handler ≡ refused why → normal ≡ record { number = number_of why; bytes = [] }
    both-refuse why e = normal-is ∙ ap (λ (x : Reading). reading_answer x (count names)) e

    number_is : {x : Reading} → handler ≡ x → normal.number ≡ (reading_answer x (count names)).number
    number_is e = ap (λ (o : NormalAnswer). o.number) (normal-is ∙ ap (λ (x : Reading). reading_answer x (count names)) e)

    pub accept-back : normal.number ≡ 0 → (b : Bitset) × (handler ≡ accepted b) × (normal.bytes ≡ normal_form (count names) b)
    accept-back zero = go handler refl
      where
        go : (x : Reading) → handler ≡ x → (b : Bitset) × (handler ≡ accepted b) × (normal.bytes ≡ normal_form (count names) b)
        go (accepted b) e = (b, e, ap (λ (o : NormalAnswer). o.bytes) (both-accept b e))
        go (refused why) e = absurd (omega (arith, zero, number_is e, number-above why))

    pub refuse-back : 0 < normal.number → (why : Refusal) × (handler ≡ refused why) × (normal.number ≡ number_of why) × (normal.bytes ≡ [])
    refuse-back more = go handler refl
      where
        go : (x : Reading) → handler ≡ x → (why : Refusal) × (handler ≡ refused why) × (normal.number ≡ number_of why) × (normal.bytes ≡ [])
        go (accepted b) e = absurd (omega (arith, more, number_is e))
        go (refused why) e = (why, e, number_is e, ap (λ (o : NormalAnswer). o.bytes) (both-refuse why e))

-- two bitsets of requests, over one name list
module _ (names : List ℕ) (right : names_right names ≡ true) (room : ℕ) (page : 144 ≤ room)
    (m : List ℕ) (start end : ℕ) (order : start ≤ end) (inside : end ≤ length m) (short : length (part_of m start end) ≤ 32768)
    (b : Bitset) (ok : bitset_reading (part_of m 0 end) start names ≡ accepted b)
    (m' : List ℕ) (start' end' : ℕ) (order' : start' ≤ end') (inside' : end' ≤ length m') (short' : length (part_of m' start' end') ≤ 32768)
    (c : Bitset) (ok' : bitset_reading (part_of m' 0 end') start' names ≡ accepted c) where
  pub alike-exactly : (ActAlike (count names) b c → (normalised (part_of m start end) names room).bytes ≡ (normalised (part_of m' start' end') names room).bytes)
      × ((normalised (part_of m start end) names room).bytes ≡ (normalised (part_of m' start' end') names room).bytes → ActAlike (count names) b c)
  alike-exactly =
      let decide = readings-decide names right (part_of m start end) (part_of m' start' end') b c (accepted-alone m names start end order inside b ok) (accepted-alone m' names start' end' order' inside' c ok') in
      let first : (normalised (part_of m start end) names room).bytes ≡ normal_form (count names) b =
      ap (λ (o : NormalAnswer). o.bytes) (both-accept m names start end order inside right room page short b ok) in
      let second : (normalised (part_of m' start' end') names room).bytes ≡ normal_form (count names) c =
      ap (λ (o : NormalAnswer). o.bytes) (both-accept m' names start' end' order' inside' right room page short' c ok') in
      (λ a. first ∙ decide.0 a ∙ sym second, λ e. decide.1 (sym first ∙ e ∙ second))
