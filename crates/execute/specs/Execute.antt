-- Document 01, "What a call says back", from the levels on, and request C-11: an admitted command judged level by level, then carried out.
use Rattle.std.specs.Prelude.{ℕ, ◌+◌, ◌%◌, List, ◌++◌, cond, eqb, ltb, Result, Ok, Err}
use Rattle.basics.specs.Put.{splice}
use Rattle.bits.specs.Set.{has, words_of}
use Rattle.netlink_headers.specs.declared.headers.MessageHeader.{MessageHeader}
use Rattle.netlink_attributes.specs.Attributes.{part_of}
use Rattle.netlink.specs.declared.walk.Slot.{Slot}
use Rattle.bitset_form.specs.Bitset.{Bitset, Reading, effect}
use Rattle.bitset_form.specs.Bitset.Reading.{refused, accepted}
use Rattle.bitset.specs.Judge.{bitset_reading}
use Rattle.roll.specs.Record.{index_of, name_of}
use Rattle.layout.specs.Layout.{list_of, size_of}
use Rattle.layout.specs.declared.Set.{Set}
use Rattle.boxes.specs.Box.{Box, State, ports_in, sizes_in, place_in, width_in, set_of}
use Rattle.boxes.specs.declared.Call.{Call}
use Rattle.netlink_dump.specs.Dump.{multi, done_message}
use Rattle.reply.specs.Message.{heading_of, Content, reply_bytes}
use Rattle.admission.specs.Admission.{is_dump}
use Rattle.admission.specs.declared.commands.Command.{Command}
use Rattle.request.specs.Top.{top_of}
use Rattle.request.specs.Target.{target_of}
use Rattle.request.specs.declared.target.Target.{Target}
use Rattle.request.specs.declared.parts.TopParts.{TopParts}
use Rattle.response.specs.Answer.{Response, Outcome, response_of, error_response, ack_bytes, unchanged}
use Rattle.response.specs.declared.Kind.TheVariants.{Done}
use Rattle.execute.specs.declared.Request.{Request}
use Rattle.refusal.specs.declared.Refusal.{Refusal}
use Rattle.request.specs.declared.target.Addressee.{Addressee}
use Rattle.request.specs.declared.target.Addressee.TheVariants as A

-- the request of a call with a header and a command, after which the datagram goes on at a position
abbrev pub request_of : Call → MessageHeader → ℕ → Command → Request
request_of call h next command = record { header = h; position = call.position; next = next; place = call.place; command = command }

-- the state with new words for a set of the port at a position
unfoldable pub with_set : Box → State → ℕ → Set → List ℕ → State
with_set box state position set new = record { words = splice (place_in box position set) state.words new }

-- the state in which that set is what a bitset makes of it
unfoldable pub with_effect : Box → State → ℕ → Set → Bitset → State
with_effect box state position set b = with_set box state position set (words_of (width_in box set) (effect b (has (set_of box state position set))))

-- what a reply is about: a set of a port, compact with header flag 1
unfoldable pub content_in : Box → State → Set → Target → Content
content_in box state set target =
    record {
      index = index_of box.roll target.position;
      name = name_of box.roll target.position;
      compact = eqb (target.flags % 2) 1;
      names = list_of box.names set;
      words = set_of box state target.position set;
      bits = size_of (sizes_in box) set;
    }

-- the reply to a request about a port, with message flags
unfoldable pub port_reply : Box → State → Request → ℕ → Target → List ℕ
port_reply box state request flags target =
    reply_bytes (heading_of request.header flags request.command.reply) (content_in box state request.command.set target)

-- "A done GET writes the reply, then the ACK if asked": message flags 0
unfoldable pub get_bytes : Box → State → List ℕ → Request → Target → List ℕ
get_bytes box state m request target = port_reply box state request 0 target ++ ack_bytes m request.header

-- a dump at the place of a port: the reply that a GET of this port writes, but "with the MULTI flag (2)", without an ACK; the next place and "the same position"
unfoldable pub port_response : Box → State → Request → ℕ → Response
port_response box state request flags =
    record {
      kind = Done;
      next = request.position;
      place = request.place + 1;
      bytes = port_reply box state request multi (record { position = request.place; flags = flags });
    }

-- "given a place (0 for the first port, the port count for DONE)": a dump whose header has these flags
unfoldable pub dump_response : Box → State → Request → ℕ → Response
dump_response box state request flags =
    cond (ltb request.place (ports_in box)) (port_response box state request flags) (response_of Done request.next (done_message request.header))

-- "Settings change only in a done SET, and there only in the named set of the named port": that set becomes what the bitset makes of it
abbrev pub reading_outcome : Reading → Box → State → List ℕ → Request → ℕ → Outcome State
reading_outcome (refused r) box state m request position = unchanged (error_response m request.next r) state
reading_outcome (accepted b) box state m request position =
    record {
      response = response_of Done request.next (ack_bytes m request.header);
      state = with_effect box state position request.command.set b;
    }

-- a SET: the bitset is walked in the message cut at the nest's end, so that every place counts from the request's start
unfoldable pub set_outcome : Box → State → List ℕ → Request → Slot → ℕ → Outcome State
set_outcome box state m request bitset position =
    reading_outcome (bitset_reading (part_of m 0 bitset.end) bitset.start (list_of box.names request.command.set)) box state m request position

-- GET or SET
unfoldable pub port_outcome : Box → State → List ℕ → Request → Slot → Target → Outcome State
port_outcome box state m request bitset target =
    cond request.command.change
    (set_outcome box state m request bitset target.position)
    (unchanged (response_of Done request.next (get_bytes box state m request target)) state)

-- a refusal of the header level, or a dump, or what is made of its target
abbrev pub target_outcome : Result Addressee Refusal → Box → State → List ℕ → Request → (Target → Outcome State) → Outcome State
target_outcome (Err r) box state m request f = unchanged (error_response m request.next r) state
target_outcome (Ok (A.Unnamed flags)) box state m request f = unchanged (dump_response box state request flags) state
target_outcome (Ok (A.Port target)) box state m request f = f target

-- the port that the header names, then GET or SET; or a dump
unfoldable pub header_outcome : Box → State → List ℕ → Request → TopParts → Outcome State
header_outcome box state m request parts =
    target_outcome (target_of m parts.header (is_dump request.header) box.roll) box state m request (port_outcome box state m request parts.bitset)

-- a refusal of the top level, or what is made of its parts
abbrev pub top_outcome : Result TopParts Refusal → State → List ℕ → Request → (TopParts → Outcome State) → Outcome State
top_outcome (Err r) state m request f = unchanged (error_response m request.next r) state
top_outcome (Ok parts) state m request f = f parts

-- what an admitted request comes to
unfoldable pub request_outcome : Box → State → List ℕ → Request → Outcome State
request_outcome box state m request = top_outcome (top_of m request.command.change) state m request (header_outcome box state m request)
