-- Document 01, "What a call says back": 16 and 17, which every request that names a port meets.
use Rattle.std.specs.Prelude.{ℕ, ◌-◌, List, [], ◌∷◌, Bool, true, false, ◌&&◌, not, Option, Some, None}
use Rattle.netlink_attributes.specs.Attributes.{part_of}
use Rattle.netlink.specs.Walk.{slot_number}
use Rattle.netlink.specs.declared.walk.Slot.{Slot}
use Rattle.refusal.specs.declared.Refusal.TheVariants as R
use Rattle.roll.specs.Find.{found_by_index, found_by_name}
use Rattle.roll.specs.Name.{holds_name}
use Rattle.roll.specs.Record.{name_of}
use Rattle.request.specs.declared.parts.HeaderParts.{HeaderParts}
use Rattle.demands.specs.Check.{Check, refuse_if}

-- no port is found
unfoldable pub no_port : Option ℕ → Bool
no_port None = true
no_port (Some position) = false

-- a port is found, and the name that is given is not its name
unfoldable pub named_otherwise : List ℕ → Slot → List ℕ → Option ℕ → Bool
named_otherwise m name roll None = false
named_otherwise m name roll (Some position) = name.present && not (holds_name (name_of roll position) (part_of m name.start name.end))

-- "no such port, by index if given, else by name" (16), "index found, name differs" (17), of the header nest, from its parts
unfoldable pub named_port_checks : List ℕ → List ℕ → Slot → HeaderParts → List Check
named_port_checks m roll header parts =
    refuse_if (parts.index.present && no_port (found_by_index roll (slot_number m parts.index))) (R.UnknownPort (parts.index.start - 4))
    ∷ refuse_if (not parts.index.present && (parts.name.present && no_port (found_by_name roll (part_of m parts.name.start parts.name.end)))) (R.UnknownPort (parts.name.start - 4))
    ∷ refuse_if (parts.index.present && named_otherwise m parts.name roll (found_by_index roll (slot_number m parts.index))) (R.OtherName (header.start - 4))
    ∷ []
