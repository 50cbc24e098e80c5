-- The tables as document 01 has them.
--     refusals-are    number, errno and detail of each refusal
--     commands-are    the five commands, and no other
--     kinds-are       the numbers of the kinds
use Prim.Native.Nat.{ℕ}
use mathlib.Core.Path.{refl, sym}
use borrow.Author.Tests.{ne_eqb}
use Rattle.refusal.specs.declared.Refusal.{Refusal}
use Rattle.admission.specs.Commands.{command_in, command_of}
use Rattle.demands.specs.Tables.{RefusalTable, CommandTable, KindTable}

pub refusals-are : (at kind : ℕ) → RefusalTable at kind
refusals-are at kind =
    record {
      one = (refl, refl, refl);
      two = (refl, refl, refl);
      three = (refl, refl, refl);
      four = (refl, refl, refl);
      five = (refl, refl, refl);
      six = (refl, refl, refl);
      seven = (refl, refl, refl);
      eight = (refl, refl, refl);
      nine = (refl, refl, refl);
      ten = (refl, refl, refl);
      eleven = (refl, refl, refl);
      twelve = (refl, refl, refl);
      thirteen = (refl, refl, refl);
      thirteen-nest = (refl, refl, refl);
      fourteen = (refl, refl, refl);
      fifteen = (refl, refl, refl);
      sixteen = (refl, refl, refl);
      seventeen = (refl, refl, refl);
      eighteen = (refl, refl, refl);
      nineteen = (refl, refl, refl);
      twenty = (refl, refl, refl);
      twenty-one = (refl, refl, refl);
      twenty-two = (refl, refl, refl);
      twenty-three = (refl, refl, refl);
      twenty-four = (refl, refl, refl);
      twenty-five = (refl, refl, refl);
    }

pub commands-are : CommandTable
unfolding command_of command_in
commands-are =
    record {
      strset-get = refl;
      debug-get = refl;
      debug-set = refl;
      privflags-get = refl;
      privflags-set = refl;
      others =
          λ n z a b c d. rw
          (ne_eqb 1 n (λ e. z (sym e)), ne_eqb 7 n (λ e. a (sym e)), ne_eqb 8 n (λ e. b (sym e)), ne_eqb 13 n (λ e. c (sym e)), ne_eqb 14 n (λ e. d (sym e)));
    }

pub kinds-are : (why : Refusal) → KindTable why
kinds-are why = record { end = (refl, refl); skipped = (refl, refl); done = (refl, refl); refused = (refl, refl) }
