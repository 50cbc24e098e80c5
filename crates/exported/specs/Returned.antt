-- What C gets back from `ethnl_handle`: the numbers behind its pointers, its page and its settings.
use Rattle.std.specs.Prelude.{ℕ, ◌+◌, ◌≤◌, ◌≡◌, List, Bool, true, false, ◌&&◌, cond, length, eqb, ltb}
use Rattle.basics.specs.Numbers.{byte_at}
use Rattle.basics.specs.Put.{put}
use Rattle.netlink_headers.specs.Headers.{message_header}
use Rattle.netlink_headers.specs.declared.headers.MessageHeader.{MessageHeader}
use Rattle.refusal.specs.Refusal.{number_of}
use Rattle.refusal.specs.declared.Refusal.{Refusal}
use Rattle.boxes.specs.Box.{Box, ports_in}
use Rattle.boxes.specs.declared.Call.{Call}
use Rattle.admission.specs.Commands.{command_of}
use Rattle.response.specs.Answer.{Response}
use Rattle.handler.specs.Bytes.{Stored, bytes_outcome, in_words}
use Rattle.demands.specs.Answer.{refusal_bytes}
use Rattle.demands.specs.Check.{Check, AllPass, FirstIs}
use Rattle.demands.specs.Call.{message_of, next_of, call_checks}
use Rattle.demands.specs.Request.{is_set, is_strset, asks_dump}
use Rattle.demands.specs.Done.{DoneGet, DoneDump, DoneStrset}
use Rattle.demands.specs.Stored.{stored_right, as_words, DoneSetStored}
use Rattle.demands.specs.OwnNames.{RequestOwnNames}
use Rattle.ethnl.specs.Exported.{Handle}

-- what a call of `ethnl_handle` is lent
pub record Lent : Type 0 where
  pub box : Box
  pub settings : Stored
  pub call : Call
  pub datagram : List ℕ
  pub page : List ℕ

-- what it leaves: the five numbers behind its pointers, the page and the settings
pub record Left : Type 0 where
  pub kind : ℕ
  pub refusal : ℕ
  pub next : ℕ
  pub place : ℕ
  pub written : ℕ
  pub page : List ℕ
  pub settings : Stored

-- the contract of `ethnl_handle`, for what it is lent and what it leaves
abbrev pub Leaves : Lent → Left → Type 0
Leaves c r =
    Handle (bytes_outcome c.box c.settings c.call c.datagram (length c.page)) c.settings r.settings c.page r.page r.kind r.refusal
    r.next r.place r.written

-- the message that the call is about
abbrev pub message_in : Lent → List ℕ
message_in c = message_of c.datagram c.call.position

-- its header
abbrev pub header_in : Lent → MessageHeader
header_in c = message_header c.datagram c.call.position

-- the answer is a port's reply of a dump: kind 2, both DUMP bits, and a place below the port count
abbrev pub is_port_reply : Lent → Left → Bool
is_port_reply c r = eqb r.kind 2 && (asks_dump (header_in c) && ltb c.call.place (ports_in c.box))

-- all checks of the call, in document 01's order
abbrev pub checks_of : Lent → List Check
checks_of c = call_checks (stored_right c.box c.settings c.call) c.box c.call c.datagram (length c.page)

-- the bytes stand at the front of the page, their count is told, and the rest of the page is as before
abbrev pub Wrote : Lent → Left → List ℕ → Type 0
Wrote c r bytes = (r.page ≡ put c.page bytes) × (r.written ≡ length bytes)

-- refused: by the first check that does not pass, with its number; the settings stay, byte for byte; its error message is written, or nothing
pub record LeftRefused (c : Lent) (r : Left) : Type 0 where
  pub why : Refusal
  pub first : FirstIs why (checks_of c)
  pub number : r.refusal ≡ number_of why
  pub settings : r.settings ≡ c.settings
  pub wrote : Wrote c r (refusal_bytes (message_in c) why)

-- a SET that is done: the named set of the named port is changed as its bitset says, no other byte of the settings, and an ACK is written if asked; in its
-- bitset every BIT that carries an index and a name carries the name of that index's entry
pub record LeftSet (c : Lent) (r : Left) : Type 0 where
  pub response : Response
  pub done : DoneSetStored c.box c.settings c.call (message_in c) (header_in c) (record { response = response; state = r.settings })
  pub own-names : RequestOwnNames c.box (message_in c) done.done.named
  pub wrote : Wrote c r response.bytes

-- a GET that is done and no dump: the settings stay, byte for byte, and the reply is written, then an ACK if asked
pub record LeftGet (c : Lent) (r : Left) : Type 0 where
  pub response : Response
  pub settings : r.settings ≡ c.settings
  pub done : DoneGet c.box (in_words c.settings) (message_in c) (header_in c) (as_words (record { response = response; state = r.settings }))
  pub wrote : Wrote c r response.bytes

-- a STRSET_GET that is done: the settings stay, byte for byte, and the reply with the name lists is written, then an ACK if asked
pub record LeftNames (c : Lent) (r : Left) : Type 0 where
  pub response : Response
  pub settings : r.settings ≡ c.settings
  pub done : DoneStrset c.box (in_words c.settings) (message_in c) (header_in c) (as_words (record { response = response; state = r.settings }))
  pub wrote : Wrote c r response.bytes

-- a call of a dump that is done: the settings stay, byte for byte, and the reply about the port at the place, or DONE, is written, without an ACK
pub record LeftDump (c : Lent) (r : Left) : Type 0 where
  pub response : Response
  pub settings : r.settings ≡ c.settings
  pub done : DoneDump c.box (in_words c.settings) c.call (message_in c) (header_in c) (next_of c.datagram c.call.position)
      (as_words (record { response = response; state = r.settings }))
  pub wrote : Wrote c r response.bytes
  pub next : r.next ≡ response.next
  pub place : r.place ≡ response.place

-- what C gets back, by the kind: 2 exactly where every check passes; 3 exactly where one refuses, with the number of the first that does; 0 and 1 change and write nothing; and where
-- to go on: the position itself for the end and for 1 to 4, and after a port's reply of a dump, else behind the message's step; the place is the next one after such a reply, else 0
pub record Returned (c : Lent) (r : Left) : Type 0 where
  pub kinds : r.kind ≤ 3
  pub done-exactly : (r.kind ≡ 2 → AllPass (checks_of c)) × (AllPass (checks_of c) → r.kind ≡ 2)
  pub refused : r.kind ≡ 3 → LeftRefused c r
  pub refused-back : (why : Refusal) → FirstIs why (checks_of c) → (r.kind ≡ 3) × (r.refusal ≡ number_of why)
  pub unrefused : r.kind ≤ 2 → r.refusal ≡ 0
  pub quiet : r.kind ≤ 1 → (r.settings ≡ c.settings) × (r.page ≡ c.page) × (r.written ≡ 0)
  pub set : r.kind ≡ 2 → is_set (command_of (byte_at (message_in c) 16)) ≡ true → LeftSet c r
  pub get : r.kind ≡ 2 → is_set (command_of (byte_at (message_in c) 16)) ≡ false → is_strset (command_of (byte_at (message_in c) 16)) ≡ false → asks_dump (header_in c) ≡ false → LeftGet c r
  pub names : r.kind ≡ 2 → is_strset (command_of (byte_at (message_in c) 16)) ≡ true → LeftNames c r
  pub dump : r.kind ≡ 2 → asks_dump (header_in c) ≡ true → LeftDump c r
  pub stays : (r.kind ≡ 0 → r.next ≡ c.call.position) × (r.kind ≡ 3 → r.refusal ≤ 4 → r.next ≡ c.call.position)
  pub goes_on : (1 ≤ r.kind) → (r.kind ≡ 3 → 5 ≤ r.refusal) → r.next ≡ cond (is_port_reply c r) c.call.position (next_of c.datagram c.call.position)
  pub place : r.place ≡ cond (is_port_reply c r) (c.call.place + 1) 0
