-- No promise rests on this file: it is what the code answers, the mask and value of a bitset as sixteen words each, and the sets that they are made of.
use Rattle.std.specs.Prelude.{ℕ, Bool, true, ◌&&◌, ltb, Result, Ok, Err}
use Rattle.bits.specs.Set.{has, words_of, all_below, put_bit}
use Rattle.refusal.specs.declared.Refusal.{Refusal}
use Rattle.bitset_form.specs.Bitset.{Bitset, Reading, mask_of, value_of}
use Rattle.bitset_form.specs.Bitset.Reading.{refused, accepted}
use Rattle.bitset_form.specs.declared.Form.{Form}

-- the bits of a set below a size
unfoldable pub cut_at : ℕ → (ℕ → Bool) → ℕ → Bool
cut_at size f i = ltb i size && f i

-- the bits that are in both sets
unfoldable pub both : (ℕ → Bool) → (ℕ → Bool) → ℕ → Bool
both f g i = f i && g i

-- the mask and value as sixteen words each: N is at most 512
abbrev pub form_of : ℕ → Bitset → Form
form_of n b = record { mask = words_of 16 (mask_of n b); value = words_of 16 (value_of b) }

-- the answer of judging
unfoldable pub judged_as : ℕ → Reading → Result Form Refusal
judged_as n (refused r) = Err r
judged_as n (accepted b) = Ok (form_of n b)

-- the form with one more listed bit
unfoldable pub listed_in : Form → ℕ → Bool → Form
listed_in f number on =
    record { mask = words_of 16 (put_bit number true (has f.mask)); value = words_of 16 (put_bit number on (has f.value)) }

-- the answer for a bit list under NOMASK: a refusal stays, else every bit below n is masked, and the listed bits are 1
unfoldable pub under_nomask : ℕ → Result Form Refusal → Result Form Refusal
under_nomask n (Err r) = Err r
under_nomask n (Ok f) = Ok (record { mask = words_of 16 (all_below n); value = f.mask })
