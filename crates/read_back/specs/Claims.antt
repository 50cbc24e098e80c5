-- What the laws about replies say.
use Rattle.std.specs.Prelude.{ℕ, ◌≡◌, Bool, List}
use Rattle.bitset_form.specs.Bitset.{Bitset, effect}
use Rattle.bitset_form.specs.Bitset.Reading.{accepted}
use Rattle.bitset.specs.Judge.{bitset_reading}

-- demand 2, "read back give the stored set": the bitset whose contents are the bytes of s from a position on is accepted, and makes the
-- stored set of every starting set
abbrev pub ReadsBack : List ℕ → ℕ → List ℕ → (ℕ → Bool) → Type 0
ReadsBack s at names stored =
    (b : Bitset) × (bitset_reading s at names ≡ accepted b) × ((start : ℕ → Bool) (i : ℕ) → effect b start i ≡ stored i)
