-- Document 01, "What a call says back", and requests C-11 and C-13: skipped, and refusals 5 to 9.
use Rattle.std.specs.Prelude.{ℕ, ◌/◌, ◌%◌, List, Bool, ◌&&◌, ◌||◌, not, cond, length, ltb, eqb, Option, Some, None, Result, Ok, Err}
use Rattle.basics.specs.Numbers.{byte_at}
use Rattle.netlink_headers.specs.declared.headers.MessageHeader.{MessageHeader}
use Rattle.refusal.specs.declared.Refusal.TheVariants as R
use Rattle.admission.specs.Commands.{command_of}
use Rattle.admission.specs.declared.commands.Command.{Command}
use Rattle.refusal.specs.declared.Refusal.{Refusal}
use Rattle.admission.specs.declared.commands.Listed.{Listed}
use Rattle.admission.specs.declared.Admission.{Admission}
use Rattle.admission.specs.declared.commands.Listed.TheVariants as C
use Rattle.admission.specs.declared.Admission.TheVariants.{Admitted, Skipped, Strset}

-- "both DUMP bits" (0x300): the message asks for a dump
unfoldable pub is_dump : MessageHeader → Bool
is_dump h = eqb (h.flags / 256 % 4) 3

-- "8 now stands for a SET with both bits, at its old place": the command is not one that may be dumped
unfoldable pub no_dump : MessageHeader → Command → Bool
no_dump h command = is_dump h && not command.dump

-- "SET, not admin"
unfoldable pub not_permitted : Command → Bool → Bool
not_permitted command admin = command.change && not admin

-- a listed command: 8, then 9
unfoldable pub permitted : MessageHeader → Bool → Command → Result Admission Refusal
permitted h admin command =
    cond (no_dump h command) (Err R.Dump)
    (cond (not_permitted command admin) (Err R.Permission)
    (Ok (Admitted command)))

-- STRSET_GET: "Both DUMP bits give 8, at its old place"
unfoldable pub strset_permitted : MessageHeader → Result Admission Refusal
strset_permitted h = cond (is_dump h) (Err R.Dump) (Ok Strset)

-- 7, or what a listed command comes to
abbrev pub on_command : Option Listed → Result Admission Refusal → (Command → Result Admission Refusal) → Result Admission Refusal
on_command None names rest = Err R.Command
on_command (Some C.Strset) names rest = names
on_command (Some (C.OfSet command)) names rest = rest command

-- the message m with its header h: "Type below 16 or REQUEST absent: skipped"; 5; 6, a length of 16 to 19; 7 to 9 by the command at 16
unfoldable pub admitted : List ℕ → MessageHeader → ℕ → Bool → Result Admission Refusal
admitted m h family admin =
    cond (ltb h.kind 16 || eqb (h.flags % 2) 0) (Ok Skipped)
    (cond (not (eqb h.kind family)) (Err R.Family)
    (cond (ltb (length m) 20) (Err R.Short)
    (on_command (command_of (byte_at m 16)) (strset_permitted h) (permitted h admin))))
