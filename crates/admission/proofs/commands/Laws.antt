-- Laws of the search through the rows of the commands.
use Prim.Native.Nat.{ℕ, suc, ◌+◌, ◌≤◌, ◌<◌}
use mathlib.Core.Path.{◌≡◌, sym, ap, ◌∙◌}
use mathlib.Core.List.{List}
use mathlib.Core.Bool.{Bool, false, cond}
use lib.ListN.{length, get_or, drop, drop_of_length-le}
use lib.Seq.{drop-cons}
use lib.Dec.{eqb}
use native.Mathlib.Numerals.{add-one}
use native.Mathlib.Omega.{arith}
use borrow.Author.Tests.{eq-eqb, ne_eqb}
use Rattle.admission.specs.Commands.{command_row, listed_row, commands, command_in, command_of}
use Rattle.layout.specs.declared.Set.{Set}
use Rattle.layout.specs.declared.Set.TheVariants.{Debug}
use Rattle.admission.specs.declared.commands.Command.{Command}
use Rattle.admission.specs.declared.commands.Row.{Row}
use Rattle.std.specs.Prelude.{Some, None}
use Rattle.admission.specs.declared.commands.Listed.TheVariants.{OfSet}

pub row_is : (number : ℕ) (change : Bool) (set : Set) (reply : ℕ) (dump : Bool) (command : Command) → command ≡ command_row number change set reply dump
    → record { number = number; command = OfSet command } ≡ listed_row number change set reply dump
row_is number change set reply dump command e = ap (λ (x : Command). record { number = number; command = OfSet x }) e

-- the rows before i are of other numbers
unfoldable pub RowsFrom : ℕ → List Row → ℕ → Type 0
RowsFrom number rows i = command_of number ≡ command_in (drop i rows) number

-- what stands past the rows' end
abbrev blank : Row
blank = record { number = 0; command = OfSet (command_row 0 false Debug 0 false) }

pub rows_start : (number : ℕ) (rows : List Row) → rows ≡ commands → RowsFrom number rows 0
unfolding command_of RowsFrom
rows_start number rows e = rw e

module _ (number : ℕ) (rows : List Row) (i : ℕ) (inv : RowsFrom number rows i) (n : ℕ) (size : length rows ≡ n) where
  module _ (h : i < n) where
    turn : command_of number ≡ cond (eqb (get_or rows i blank).number number) (Some (get_or rows i blank).command) (command_in (drop (suc i) rows) number)
    unfolding command_in RowsFrom
    turn = inv ∙ ap (λ (x : List Row). command_in x number) (drop-cons rows i blank (omega arith))

    pub rows-here : (get_or rows i blank).number ≡ number → Some (get_or rows i blank).command ≡ command_of number
    rows-here q = sym (turn ∙ rw (eq-eqb _ _ q))

    pub rows_next : ((get_or rows i blank).number ≡ number → ⊥) → RowsFrom number rows (i + 1)
    unfolding RowsFrom
    rows_next q = turn ∙ rw (ne_eqb _ _ q, add-one i)

  pub rows-done : n ≤ i → None ≡ command_of number
  unfolding command_in RowsFrom
  rows-done h = sym (inv ∙ ap (λ (x : List Row). command_in x number) (drop_of_length-le rows {i = i} (omega arith)))

pub ruleset rows-laws = (rows_start, rows-here, rows_next, rows-done)
