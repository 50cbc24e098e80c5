-- Document 01, "What a call says back", and request C-11: all checks of a call as one list, in their order, and where the next call goes on.
use Rattle.std.specs.Prelude.{ℕ, ◌+◌, min, List, ◌∷◌, Bool, false, ◌&&◌, ◌||◌, not, cond, length, eqb, ltb}
use Rattle.basics.specs.Numbers.{u32_at}
use Rattle.netlink_attributes.specs.Attributes.{part_of}
use Rattle.netlink_headers.specs.Headers.{message_header}
use Rattle.netlink_headers.specs.Lengths.{round_up4}
use Rattle.refusal.specs.declared.Refusal.TheVariants as R
use Rattle.boxes.specs.Box.{Box, ports_in}
use Rattle.boxes.specs.declared.Call.{Call}
use Rattle.demands.specs.Check.{Check, refuse_if}
use Rattle.demands.specs.Check.Check.{ends, passes}
use Rattle.response.specs.declared.Kind.{Kind}
use Rattle.response.specs.declared.Kind.TheVariants.{End, Skipped, Done, Refused}
use Rattle.demands.specs.Request.{asks_dump, message_checks}

-- the message that stands at a position: as many bytes as its header states
unfoldable pub message_of : List ℕ → ℕ → List ℕ
message_of datagram position = part_of datagram position (position + u32_at datagram position)

-- "past the message's step, capped at the datagram's end"
abbrev pub next_of : List ℕ → ℕ → ℕ
next_of datagram position = min (position + round_up4 (u32_at datagram position)) (length datagram)

-- "Position equal to the datagram's length: end"
unfoldable pub end_if : List ℕ → ℕ → Check
end_if datagram position = cond (eqb position (length datagram)) ends passes

-- of a box that breaks no rule or breaks one: "End is decided after 1, 2 and the first two causes of 3; skipping after 4"
unfoldable pub call_checks : Bool → Box → Call → List ℕ → ℕ → List Check
call_checks right box call datagram room =
    refuse_if (not right) R.Box
    ∷ refuse_if (ltb room 32768) R.Page
    ∷ refuse_if (ltb 32768 (length datagram)) R.Datagram
    ∷ refuse_if (ltb (length datagram) call.position) R.Datagram
    ∷ end_if datagram call.position
    ∷ refuse_if (ltb (length datagram) (call.position + 16)) R.Datagram
    ∷ refuse_if (ltb (u32_at datagram call.position) 16 || ltb (length datagram) (call.position + u32_at datagram call.position)) R.Length
    ∷ message_checks box call (message_of datagram call.position) (message_header datagram call.position)

-- an answer of this kind is a port's reply of a dump: it is done, both DUMP bits stand, and the place is that of a port
unfoldable pub tells_port : Box → Call → List ℕ → Kind → Bool
tells_port box call datagram End = false
tells_port box call datagram Skipped = false
tells_port box call datagram Done = asks_dump (message_header datagram call.position) && ltb call.place (ports_in box)
tells_port box call datagram (Refused why) = false

-- where the next call goes on: behind the message's step, and after a port's reply at "the same position"
abbrev pub next_after : Box → Call → List ℕ → Kind → ℕ
next_after box call datagram kind = cond (tells_port box call datagram kind) call.position (next_of datagram call.position)

-- "hands back the next place and, until DONE, the same position. DONE and all other answers hand back 0"
abbrev pub place_after : Box → Call → List ℕ → Kind → ℕ
place_after box call datagram kind = cond (tells_port box call datagram kind) (call.place + 1) 0
