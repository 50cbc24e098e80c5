-- Document 01, "What a call says back", the levels below the table, and request C-11: what an admitted request asks for.
use Rattle.std.specs.Prelude.{ℕ, ◌-◌, List, Bool, cond, Result, Ok, Err}
use Rattle.basics.specs.Results.{and_then}
use Rattle.entries.specs.Entry.{count}
use Rattle.netlink_attributes.specs.Attributes.{part_of}
use Rattle.netlink.specs.declared.walk.Slot.{Slot}
use Rattle.refusal.specs.declared.Refusal.{Refusal}
use Rattle.bitset_form.specs.Bitset.{Reading}
use Rattle.bitset_form.specs.Form.{form_of}
use Rattle.bitset_form.specs.Bitset.Reading.{refused, accepted}
use Rattle.bitset.specs.Judge.{bitset_reading}
use Rattle.layout.specs.Layout.{list_of}
use Rattle.boxes.specs.Box.{Box}
use Rattle.admission.specs.declared.commands.Command.{Command}
use Rattle.request.specs.Top.{top_of}
use Rattle.request.specs.Target.{target_of}
use Rattle.request.specs.declared.parts.TopParts.{TopParts}
use Rattle.request.specs.declared.target.Addressee.{Addressee}
use Rattle.request.specs.declared.target.Addressee.TheVariants as A
use Rattle.decision.specs.declared.Plan.{Plan}
use Rattle.decision.specs.declared.Plan.TheVariants as P

-- a bitset that stands at `nest`, for a set of n bits: refused, or its form is the change
abbrev pub reading_decision : Reading → ℕ → ℕ → ℕ → Result Plan Refusal
reading_decision (refused why) n position nest = Err why
reading_decision (accepted b) n position nest = Ok (P.Set position nest (form_of n b))

-- "Then the bitset is walked whole and judged": in the message cut at the nest's end, so that every place counts from the request's start
unfoldable pub bitset_decision : List ℕ → Slot → List ℕ → ℕ → Result Plan Refusal
bitset_decision m bitset names position =
    reading_decision (bitset_reading (part_of m 0 bitset.end) bitset.start names) (count names) position (bitset.start - 4)

-- the port that is named: a SET goes on to the bitset, a GET is decided; a dump names none
abbrev pub target_decision : Result Addressee Refusal → Bool → (ℕ → Result Plan Refusal) → Result Plan Refusal
target_decision (Err why) change set = Err why
target_decision (Ok (A.Unnamed flags)) change set = Ok (P.Dump flags)
target_decision (Ok (A.Port target)) change set = cond change (set target.position) (Ok (P.Get target))

-- "Then the header is walked whole, then 14 to 17"
unfoldable pub header_decision : Box → List ℕ → Command → Bool → TopParts → Result Plan Refusal
header_decision box m command dump parts =
    target_decision (target_of m parts.header dump box.roll) command.change (bitset_decision m parts.bitset (list_of box.names command.set))

-- "top level is walked whole (10, 11, 12 for each attribute in turn), then header missing (13), then bitset missing in a SET (13)"
unfoldable pub decided : Box → List ℕ → Command → Bool → Result Plan Refusal
decided box m command dump = and_then (top_of m command.change) (header_decision box m command dump)
