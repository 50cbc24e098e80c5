-- The input that is read: a full one is not answered, and one law for each need of `answer_input`.
--     full-unanswered     an input of 32,769 bytes that a read filled is too long, so nothing is written
use Prim.Native.Nat.{ℕ, ◌≤◌}
use mathlib.Core.Path.{◌≡◌, sym, ap, ◌∙◌}
use mathlib.Core.List.{List}
use lib.ListN.{length, take}
use lib.Seq.{length-take-le}
use native.Mathlib.Omega.{arith}
use Rattle.answer.specs.Run.{answers}
use Rattle.answer.proofs.Whole.{too_long}

pub full-unanswered : (input : List ℕ) (n : ℕ) → length input ≡ 32769 → n ≡ length input → length (answers (take n input)) ≡ 0
full-unanswered input n long full = ap length (too_long (take n input) (omega (arith, length-take-le n input (omega arith))))

-- the array and the count of the input, as they were handed out
module _ (input bytes : List ℕ) (count n : ℕ) (same : bytes ≡ input) (is : n ≡ count) where
  pub part-read : count ≤ length input → n ≡ length (take n bytes)
  part-read h = sym (length-take-le n bytes (rw (same, is) h))

  module _ (k : ℕ) (all : k ≡ length (answers (take n bytes))) where
    pub answers-read : k ≡ length (answers (take count input))
    answers-read = rw (same, is) at all

    pub full-counted : length input ≡ 32769 → count ≡ length input → k ≡ 0
    full-counted long full = answers-read ∙ full-unanswered input count long full

pub ruleset input-laws = (part-read, answers-read, full-counted)
