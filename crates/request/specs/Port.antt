-- Document 01, "What a call says back": refusals 16 and 17.
use Rattle.std.specs.Prelude.{ℕ, ◌-◌, List, Bool, ◌&&◌, not, cond, ok_or, Result, Ok, Err}
use Rattle.basics.specs.Results.{and_then}
use Rattle.netlink_attributes.specs.Attributes.{part_of}
use Rattle.netlink.specs.Walk.{slot_number}
use Rattle.netlink.specs.declared.walk.Slot.{Slot}
use Rattle.refusal.specs.declared.Refusal.TheVariants.{UnknownPort, OtherName}
use Rattle.roll.specs.Find.{found_by_index, found_by_name}
use Rattle.roll.specs.Name.{holds_name}
use Rattle.roll.specs.Record.{name_of}
use Rattle.request.specs.declared.parts.HeaderParts.{HeaderParts}
use Rattle.refusal.specs.declared.Refusal.{Refusal}

-- a name is given, and is not that of the port at a position
unfoldable pub other_name : List ℕ → Slot → List ℕ → ℕ → Bool
other_name m name roll position = name.present && not (holds_name (name_of roll position) (part_of m name.start name.end))

-- by index: 16 at the index; "index found, name differs", 17 at the header nest
unfoldable pub port_by_index : List ℕ → Slot → HeaderParts → List ℕ → Result ℕ Refusal
port_by_index m header parts roll =
    and_then (ok_or (found_by_index roll (slot_number m parts.index)) (UnknownPort (parts.index.start - 4)))
    (λ k. cond (other_name m parts.name roll k) (Err (OtherName (header.start - 4))) (Ok k))

-- by name: 16 at the name
unfoldable pub port_by_name : List ℕ → Slot → List ℕ → Result ℕ Refusal
port_by_name m name roll = ok_or (found_by_name roll (part_of m name.start name.end)) (UnknownPort (name.start - 4))

-- "by index if given, else by name"
unfoldable pub port_of : List ℕ → Slot → HeaderParts → List ℕ → Result ℕ Refusal
port_of m header parts roll = cond parts.index.present (port_by_index m header parts roll) (port_by_name m parts.name roll)
