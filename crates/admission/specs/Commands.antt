-- Document 01, "What the box reads and writes" (the four commands) and "Replies" (the command of a reply); requests C-11 (which may be dumped) and C-13 (STRSET_GET).
use Rattle.std.specs.Prelude.{ℕ, List, [], ◌∷◌, Bool, true, false, cond, eqb, Option, Some, None}
use Rattle.layout.specs.declared.Set.{Set}
use Rattle.layout.specs.declared.Set.TheVariants.{Debug, Flags}
use Rattle.admission.specs.declared.commands.Command.{Command}
use Rattle.admission.specs.declared.commands.Row.{Row}
use Rattle.admission.specs.declared.commands.Listed.{Listed}
use Rattle.admission.specs.declared.commands.Listed.TheVariants.{OfSet, Strset}

-- a command about a set of a port: the number, SET (true) or GET, the set, the command of the reply, and whether it may be dumped
abbrev pub command_row : ℕ → Bool → Set → ℕ → Bool → Command
command_row number change set reply dump = record { number = number; change = change; set = set; reply = reply; dump = dump }

-- the row of such a command
abbrev pub listed_row : ℕ → Bool → Set → ℕ → Bool → Row
listed_row number change set reply dump = record { number = number; command = OfSet (command_row number change set reply dump) }

-- "STRSET_GET (command 1, its reply too)", which is about no set of a port; "DEBUG_GET 7, DEBUG_SET 8, PRIVFLAGS_GET 13, PRIVFLAGS_SET 14"; in a reply "command 7 for
-- DEBUG, 14 for PRIVFLAGS"; of these four a GET may be dumped, a SET not
abbrev pub commands : List Row
commands =
    record { number = 1; command = Strset }
    ∷ listed_row 7 false Debug 7 true
    ∷ listed_row 8 true Debug 7 false
    ∷ listed_row 13 false Flags 14 true
    ∷ listed_row 14 true Flags 14 false
    ∷ []

-- the command of the first of some rows that has a number
unfoldable pub command_in : List Row → ℕ → Option Listed
command_in [] number = None
command_in (row ∷ rows) number = cond (eqb row.number number) (Some row.command) (command_in rows number)

-- the command of a number, none where no row has it
unfoldable pub command_of : ℕ → Option Listed
command_of number = command_in commands number
