-- Request C-11, "All ports at once": the calls of one dump, place by place, as `ethnl_handle` answers them.
use Rattle.std.specs.Prelude.{ℕ, zero, suc, ◌≤◌, ◌<◌, ◌≡◌, List, ◌∷◌, ◌++◌}
use Rattle.basics.specs.Numbers.{byte_at, le16, le32}
use Rattle.roll.specs.Record.{port_at}
use Rattle.netlink_headers.specs.Headers.{message_header}
use Rattle.netlink_headers.specs.declared.headers.MessageHeader.{MessageHeader}
use Rattle.boxes.specs.Box.{Box, ports_in}
use Rattle.boxes.specs.declared.Call.{Call}
use Rattle.response.specs.Answer.{Response, Outcome}
use Rattle.response.specs.declared.Kind.TheVariants.{Done}
use Rattle.handler.specs.Bytes.{Stored, in_words, bytes_outcome}
use Rattle.demands.specs.Answer.{ack_if_asked, with_multi}
use Rattle.demands.specs.Call.{message_of, next_of}
use Rattle.demands.specs.Message.{DumpAsked}
use Rattle.demands.specs.Done.{DoneGet, DonePort, DoneLast}
use Rattle.demands.specs.Stored.{as_words}
use Rattle.demands.specs.Run.{after}

-- the same call at a place
abbrev pub at_place : Call → ℕ → Call
at_place call place = record { family = call.family; admin = call.admin; position = call.position; place = place }

-- a done GET over a box and its settings, as `ethnl_handle` handled it
pub record HandledGet (box : Box) (stored : Stored) : Type 0 where
  pub call : Call
  pub datagram : List ℕ
  pub room : ℕ
  pub done : (bytes_outcome box stored call datagram room).response.kind ≡ Done
  pub got : DoneGet box (in_words stored) (message_of datagram call.position) (message_header datagram call.position)
      (as_words (bytes_outcome box stored call datagram room))

-- its header
abbrev pub header_of_get : {box : Box} {stored : Stored} → HandledGet box stored → MessageHeader
header_of_get g = message_header g.datagram g.call.position

-- it asks for one port what the dump m, whose header is h, asks for all: the same command with the same header flags, of the port at a place, under the same message
-- type, sequence and port id
pub record AsksOne {box : Box} {stored : Stored} (g : HandledGet box stored) (m : List ℕ) (h : MessageHeader) (d : DumpAsked m) (place : ℕ) : Type 0 where
  pub command : g.got.named.command ≡ d.command
  pub flags : g.got.named.target.flags ≡ d.flags
  pub port : g.got.named.target.position ≡ place
  pub family : (header_of_get g).kind ≡ h.kind
  pub sequence : (header_of_get g).sequence ≡ h.sequence
  pub port-id : (header_of_get g).port ≡ h.port

-- the GET wrote a reply, and behind it an ACK if asked; an answer of the dump has the bytes of this reply but for MULTI in the message flags
pub record RepliesAlike {box : Box} {stored : Stored} (g : HandledGet box stored) (r : Response) : Type 0 where
  pub reply : List ℕ
  pub get : (bytes_outcome box stored g.call g.datagram g.room).response.bytes ≡ reply ++ ack_if_asked (message_of g.datagram g.call.position) (header_of_get g)
  pub dump : r.bytes ≡ with_multi reply

-- a GET of the port with an index, under the message type, sequence and port id of a header h: 40 bytes, REQUEST alone, a command, and a header nest with the index and header flags
unfoldable pub get_one : MessageHeader → ℕ → ℕ → ℕ → List ℕ
get_one h command index flags =
    le32 40 ++ (le16 h.kind ++ (le16 1 ++ (le32 h.sequence ++ (le32 h.port
    ++ (command ∷ 1 ∷ 0 ∷ 0 ∷ 20 ∷ 0 ∷ 1 ∷ 128 ∷ 8 ∷ 0 ∷ 1 ∷ 0 ∷ (le32 index ++ (8 ∷ 0 ∷ 3 ∷ 0 ∷ le32 flags)))))))

-- the call of that GET as a datagram of its own, by the same sender
abbrev pub call_one : Call → Call
call_one call = record { family = call.family; admin = call.admin; position = 0; place = 0 }

-- that GET, as `ethnl_handle` answers it, is done, and an answer of the dump has the bytes that it writes but for MULTI in the message flags
pub record AsGetOne (box : Box) (stored : Stored) (call : Call) (get : List ℕ) (room : ℕ) (r : Response) : Type 0 where
  pub done : (bytes_outcome box stored (call_one call) get room).response.kind ≡ Done
  pub bytes : r.bytes ≡ with_multi (bytes_outcome box stored (call_one call) get room).response.bytes

-- the calls of a dump at all its places, each with the settings that it finds: each is done and leaves the settings; the place of a port tells that port, as every GET of this
-- port over the same settings does, and so the GET by its index that `get_one` makes; the port count tells DONE
pub record WholeDump (box : Box) (call : Call) (datagram : List ℕ) (room : ℕ) (found : ℕ → Stored) : Type 0 where
  pub dump : DumpAsked (message_of datagram call.position)
  pub done : (k : ℕ) → k ≤ ports_in box → (bytes_outcome box (found k) (at_place call k) datagram room).response.kind ≡ Done
  pub keeps : (k : ℕ) → k ≤ ports_in box → (bytes_outcome box (found k) (at_place call k) datagram room).state ≡ found k
  pub port : (k : ℕ) → k < ports_in box
      → DonePort box (in_words (found k)) (at_place call k) (message_of datagram call.position) (message_header datagram call.position) dump
      (bytes_outcome box (found k) (at_place call k) datagram room).response
  pub last : DoneLast (message_header datagram call.position) (next_of datagram call.position)
      (bytes_outcome box (found (ports_in box)) (at_place call (ports_in box)) datagram room).response
  pub as-get : (k : ℕ) → k < ports_in box → (g : HandledGet box (found k))
      → AsksOne g (message_of datagram call.position) (message_header datagram call.position) dump k
      → RepliesAlike g (bytes_outcome box (found k) (at_place call k) datagram room).response
  pub by_index : (k : ℕ) → k < ports_in box → (message_header datagram call.position).sequence < 4294967296 → (message_header datagram call.position).port < 4294967296
      → AsGetOne box (found k) call
      (get_one (message_header datagram call.position) (byte_at (message_of datagram call.position) 16) (port_at box.roll k).index dump.flags) room
      (bytes_outcome box (found k) (at_place call k) datagram room).response

-- where a run has come to: the state, and the call that comes next
pub record Point (S : Type 0) : Type 0 where
  pub state : S
  pub call : Call

-- one call further
abbrev pub next_point : {S : Type 0} → (S → Call → Outcome S) → Point S → Point S
next_point one p = record { state = (one p.state p.call).state; call = after p.call (one p.state p.call).response }

-- so many calls further
unfoldable pub point_after : {S : Type 0} → (S → Call → Outcome S) → ℕ → Point S → Point S
point_after one zero p = p
point_after one (suc calls) p = next_point one (point_after one calls p)

-- a dump over settings that stay: after k calls the k-th place is next, at the same position; after one call more than there are ports the run is behind the message,
-- at place 0
pub record DumpCalls (box : Box) (call : Call) (datagram : List ℕ) (room : ℕ) (stored : Stored) : Type 0 where
  pub each : (k : ℕ) → k ≤ ports_in box
      → point_after (λ (s : Stored) (c : Call). bytes_outcome box s c datagram room) k (record { state = stored; call = at_place call 0 })
      ≡ record { state = stored; call = at_place call k }
  pub all : point_after (λ (s : Stored) (c : Call). bytes_outcome box s c datagram room) (suc (ports_in box)) (record { state = stored; call = at_place call 0 })
      ≡ record { state = stored; call = record { family = call.family; admin = call.admin; position = next_of datagram call.position; place = 0 } }
