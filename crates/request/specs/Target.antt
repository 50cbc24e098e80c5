-- Document 01, "What a call says back", levels: "Then the header is walked whole, then 14 to 17"; and request C-11: a dump names no port.
use Rattle.std.specs.Prelude.{ℕ, List, Bool, cond, Result, Ok, Err}
use Rattle.basics.specs.Results.{and_then}
use Rattle.netlink.specs.declared.walk.Slot.{Slot}
use Rattle.request.specs.Header.{header_of}
use Rattle.request.specs.Port.{port_of}
use Rattle.refusal.specs.declared.Refusal.{Refusal}
use Rattle.request.specs.declared.target.Addressee.{Addressee}
use Rattle.request.specs.declared.target.Addressee.TheVariants.{Port, Unnamed}

-- a port with the header's flags, or 16 or 17
unfoldable pub with_flags : Result ℕ Refusal → ℕ → Result Addressee Refusal
with_flags (Err why) flags = Err why
with_flags (Ok position) flags = Ok (Port (record { position = position; flags = flags }))

-- the port that the header nest of the message m names, or in a dump none
unfoldable pub target_of : List ℕ → Slot → Bool → List ℕ → Result Addressee Refusal
target_of m header dump roll =
    and_then (header_of m header dump) (λ h. cond dump (Ok (Unnamed h.flags)) (with_flags (port_of m header h.parts roll) h.flags))
