-- Document 01, "Bitsets": the normaliser and the normal form.
use Rattle.std.specs.Prelude.{ℕ, ◌≡◌, List, [], cond, not, length, ltb, Result, Ok, Err}
use Rattle.basics.specs.Put.{put}
use Rattle.bits.specs.Set.{words_of}
use Rattle.entries.specs.Entry.{count}
use Rattle.names.specs.Rule.{names_right}
use Rattle.refusal.specs.Refusal.{number_of}
use Rattle.refusal.specs.declared.Refusal.{Refusal}
use Rattle.refusal.specs.declared.Refusal.TheVariants.{Box, Page, Datagram}
use Rattle.bitset_form.specs.Bitset.{Bitset, Reading, mask_of, value_of}
use Rattle.bitset_form.specs.Bitset.Reading.{refused, accepted}
use Rattle.bitset.specs.Judge.{bitset_reading}
use Rattle.bitset_write.specs.Form.{form_bytes}

-- "contents of a compact bitset: SIZE N, VALUE W words, MASK W words", of the mask and value of the bitset
unfoldable pub normal_form : ℕ → Bitset → List ℕ
normal_form n b = form_bytes n (words_of 16 (mask_of n b)) (words_of 16 (value_of b))

-- the number, 0 if accepted, and the bytes written
pub record NormalAnswer : Type 0 where
  pub number : ℕ
  pub bytes : List ℕ

-- a refusal: its number, and nothing written
abbrev pub refused_by : Refusal → NormalAnswer
refused_by r = record { number = number_of r; bytes = [] }

-- the number of a refusal, or 0 and the normal form
abbrev pub reading_answer : Reading → ℕ → NormalAnswer
reading_answer (refused r) n = refused_by r
reading_answer (accepted b) n = record { number = 0; bytes = normal_form n b }

-- it refuses by 1 (list), 2 (page), 3 (contents over 32,768 bytes), then 10 to 13 and 18 to 23 "in the handler's order, and then writes nothing"
unfoldable pub normalised : List ℕ → List ℕ → ℕ → NormalAnswer
normalised contents names room =
    cond (not (names_right names)) (refused_by Box)
    (cond (ltb room 144) (refused_by Page)
    (cond (ltb 32768 (length contents)) (refused_by Datagram)
    (reading_answer (bitset_reading contents 0 names) (count names))))

-- the code's answer to a reading: the refusal with its place, or how many bytes the normal form has
abbrev pub reading_result : Reading → ℕ → Result ℕ Refusal
reading_result (refused r) n = Err r
reading_result (accepted b) n = Ok (length (normal_form n b))

-- the code's answer, by the same checks
unfoldable pub normal_result : List ℕ → List ℕ → ℕ → Result ℕ Refusal
normal_result contents names room =
    cond (not (names_right names)) (Err Box)
    (cond (ltb room 144) (Err Page)
    (cond (ltb 32768 (length contents)) (Err Datagram)
    (reading_result (bitset_reading contents 0 names) (count names))))

-- the number of the code's answer: that of its refusal, or 0
abbrev pub number_told : Result ℕ Refusal → ℕ
number_told (Err r) = number_of r
number_told (Ok written) = 0

-- the count of bytes that it says are written, none where it refuses
abbrev pub count_told : Result ℕ Refusal → ℕ
count_told (Err r) = 0
count_told (Ok written) = written

-- the code's answer has the number and the count of the bytes; they stand at the front of the page, and the rest of the page is as before
pub record Normalised (o : NormalAnswer) (before after : List ℕ) (r : Result ℕ Refusal) : Type 0 where
  pub number : number_told r ≡ o.number
  pub count : count_told r ≡ length o.bytes
  pub page : after ≡ put before o.bytes
