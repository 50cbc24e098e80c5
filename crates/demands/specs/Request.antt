-- Document 01, "What a call says back", and requests C-11 and C-13: the checks of a message in their order, from skipping to the header level. "Levels: top level is walked
-- whole .., then header missing (13), then bitset missing in a SET (13). Then the header is walked whole, then 14 to 17. Then the bitset".
use Rattle.std.specs.Prelude.{ℕ, ◌-◌, ◌/◌, ◌%◌, List, [], ◌∷◌, ◌++◌, Bool, true, false, ◌&&◌, ◌||◌, not, cond, length, eqb, ltb, Option, Some, None}
use Rattle.basics.specs.Numbers.{byte_at}
use Rattle.netlink_attributes.specs.Attributes.{part_of}
use Rattle.netlink.specs.Walk.{walked, slot_number}
use Rattle.netlink_headers.specs.declared.headers.MessageHeader.{MessageHeader}
use Rattle.netlink.specs.declared.walk.Slot.{Slot}
use Rattle.refusal.specs.declared.Refusal.TheVariants as R
use Rattle.layout.specs.Layout.{list_of}
use Rattle.boxes.specs.Box.{Box}
use Rattle.boxes.specs.declared.Call.{Call}
use Rattle.layout.specs.declared.Set.{Set}
use Rattle.layout.specs.declared.Set.TheVariants.{Debug}
use Rattle.admission.specs.Commands.{command_of}
use Rattle.request.specs.Policies.{top_policy, header_policy}
use Rattle.request.specs.Parts.{top_parts, header_parts}
use Rattle.request.specs.declared.parts.TopParts.{TopParts}
use Rattle.request.specs.declared.parts.HeaderParts.{HeaderParts}
use Rattle.demands.specs.Check.{Check, refuse_if, walk_checks}
use Rattle.demands.specs.Check.Check.{skips, passes}
use Rattle.demands.specs.Bitset.{bitset_checks}
use Rattle.demands.specs.PortChecks.{named_port_checks}
use Rattle.demands.specs.Strset.{strset_checks}
use Rattle.admission.specs.declared.commands.Listed.{Listed}
use Rattle.admission.specs.declared.commands.Listed.TheVariants.{OfSet, Strset}

-- the command is not listed
unfoldable pub unlisted : Option Listed → Bool
unlisted None = true
unlisted (Some Strset) = false
unlisted (Some (OfSet command)) = false

-- it is a SET
unfoldable pub is_set : Option Listed → Bool
is_set None = false
is_set (Some Strset) = false
is_set (Some (OfSet command)) = command.change

-- it is STRSET_GET
unfoldable pub is_strset : Option Listed → Bool
is_strset None = false
is_strset (Some Strset) = true
is_strset (Some (OfSet command)) = false

-- the set that it is about; this is asked neither of a command that is not listed nor of STRSET_GET
unfoldable pub set_in : Option Listed → Set
set_in None = Debug
set_in (Some Strset) = Debug
set_in (Some (OfSet command)) = command.set

-- "Type below 16 or REQUEST absent: skipped"
unfoldable pub skip_if : MessageHeader → Check
skip_if h = cond (ltb h.kind 16 || eqb (h.flags % 2) 0) skips passes

-- "both DUMP bits": the message asks for a dump
unfoldable pub asks_dump : MessageHeader → Bool
asks_dump h = eqb (h.flags / 256 % 4) 3

-- 5 to 9; "8 now stands for a SET with both bits, at its old place", and for STRSET_GET
unfoldable pub admission_checks : List ℕ → MessageHeader → ℕ → ℕ → Option Listed → List Check
admission_checks m h family admin command =
    skip_if h
    ∷ refuse_if (not (eqb h.kind family)) R.Family
    ∷ refuse_if (ltb (length m) 20) R.Short
    ∷ refuse_if (unlisted command) R.Command
    ∷ refuse_if (asks_dump h && (is_set command || is_strset command)) R.Dump
    ∷ refuse_if (is_set command && not (eqb admin 1)) R.Permission
    ∷ []

-- 13 of the top level, from its parts
unfoldable pub top_checks : Bool → TopParts → List Check
top_checks change parts =
    refuse_if (not parts.header.present) (R.MissingTop 1) ∷ refuse_if (change && not parts.bitset.present) (R.MissingTop 2) ∷ []

-- 14 to 17 of the header nest, from its parts; 8 "for a dump that names a port by index or name, in the place of 14"
unfoldable pub port_checks : List ℕ → List ℕ → Bool → Slot → HeaderParts → List Check
port_checks m roll dump header parts =
    refuse_if (dump && (parts.index.present || parts.name.present)) R.Dump
    ∷ refuse_if (not dump && not (parts.index.present || parts.name.present)) (R.NoPort (header.start - 4))
    ∷ refuse_if (ltb 3 (slot_number m parts.flags)) (R.HeaderFlag (parts.flags.start - 4))
    ∷ named_port_checks m roll header parts

-- the header level: 10 to 12, then 14 to 17
unfoldable pub header_checks : List ℕ → List ℕ → Bool → Slot → List Check
header_checks m roll dump header =
    walk_checks (walked header_policy (part_of m 0 header.end) header.start) (λ slots. port_checks m roll dump header (header_parts slots))

-- a listed command, from the parts of the top level: 13, the header level, and in a SET the bitset
unfoldable pub level_checks : Box → List ℕ → Bool → Option Listed → TopParts → List Check
level_checks box m dump command parts =
    top_checks (is_set command) parts
    ++ (header_checks m box.roll dump parts.header
    ++ cond (is_set command) (bitset_checks (part_of m 0 parts.bitset.end) parts.bitset.start (list_of box.names (set_in command))) [])

-- the message m with its header h, whose command is read
unfoldable pub command_checks : Box → Call → List ℕ → MessageHeader → Option Listed → List Check
command_checks box call m h command =
    admission_checks m h call.family call.admin command
    ++ cond (is_strset command) (strset_checks box m h)
    (walk_checks (walked (top_policy (is_set command)) m 20) (λ slots. level_checks box m (asks_dump h) command (top_parts slots)))

-- the message m with its header h
unfoldable pub message_checks : Box → Call → List ℕ → MessageHeader → List Check
message_checks box call m h = command_checks box call m h (command_of (byte_at m 16))
