-- Document 01, "Bitsets": the checks of the normaliser in their order, and the numbers that it answers.
use Rattle.std.specs.Prelude.{ℕ, ◌≤◌, ◌≡◌, List, ◌∷◌, not, length, ltb}
use Rattle.names.specs.Rule.{names_right}
use Rattle.refusal.specs.declared.Refusal.TheVariants.{Box, Page, Datagram}
use Rattle.demands.specs.Check.{Check, refuse_if}
use Rattle.demands.specs.Bitset.{bitset_checks}

-- it refuses by 1 (list), 2 (page), 3 (contents over 32,768 bytes), then 10 to 13 and 18 to 23 "in the handler's order"
unfoldable pub normal_checks : List ℕ → List ℕ → ℕ → List Check
normal_checks contents names room =
    refuse_if (not (names_right names)) Box
    ∷ refuse_if (ltb room 144) Page
    ∷ refuse_if (ltb 32768 (length contents)) Datagram
    ∷ bitset_checks contents 0 names

-- the number of a row that a bitset can meet: 10 to 13, or 18 to 23
pub data BitsetNumber (n : ℕ) : Type 0 where
  walking : 10 ≤ n → n ≤ 13 → BitsetNumber n
  judging : 18 ≤ n → n ≤ 23 → BitsetNumber n

-- a number that the normaliser answers: 0 if accepted, 1 to 3, or that of a row that a bitset can meet
pub data NormalNumber (n : ℕ) : Type 0 where
  none : n ≡ 0 → NormalNumber n
  before : 1 ≤ n → n ≤ 3 → NormalNumber n
  within : BitsetNumber n → NormalNumber n
