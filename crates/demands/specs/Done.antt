-- What a done message has brought about: request C-11, and demand 2, "An accepted bitset gives every masked bit its value and keeps the rest" and "Replies are the
-- stated bytes, and read back give the stored set".
use Rattle.std.specs.Prelude.{ℕ, ◌+◌, ◌-◌, ◌%◌, ◌≤◌, ◌<◌, ◌≡◌, List, ◌++◌, Bool, true, false, ◌⊎◌, length, get_or, eqb, Ok}
use Rattle.bits.specs.Set.{has}
use Rattle.entries.specs.Entry.{count}
use Rattle.roll.specs.Record.{port_at}
use Rattle.bits.specs.Change.{Same}
use Rattle.netlink_attributes.specs.Attributes.{attributes}
use Rattle.netlink_attributes.specs.Attributes.Attributes.{done, attribute}
use Rattle.netlink_headers.specs.declared.headers.MessageHeader.{MessageHeader}
use Rattle.bitset_form.specs.Bitset.{Bitset, effect}
use Rattle.boxes.specs.Box.{Box, State, ports_in, place_in, width_in, set_of}
use Rattle.boxes.specs.declared.Call.{Call}
use Rattle.boxes.specs.Rule.{box_right}
use Rattle.layout.specs.Layout.{list_of}
use Rattle.layout.specs.declared.Set.{Set}
use Rattle.read_back.specs.Claims.{ReadsBack}
use Rattle.admission.specs.declared.commands.Command.{Command}
use Rattle.reply.specs.Message.{heading_of, Content, reply_bytes}
use Rattle.read_back.specs.Strset.{ToldName, reply_told}
use Rattle.read_back.specs.Strset.Told.{told}
use Rattle.strset_request.specs.Asked.{asked_of}
use Rattle.strset_request.specs.declared.asked.Asked.{Asked}
use Rattle.strset_reply.specs.Message.{strset_reply}
use Rattle.strset.specs.Strset.{strset_content_in}
use Rattle.response.specs.Answer.{Response, Outcome}
use Rattle.demands.specs.Answer.{ack_if_asked, done_bytes, with_multi}
use Rattle.demands.specs.Names.{sets_of, PortOf}
use Rattle.demands.specs.Message.{Named, DumpAsked, Carries}

-- a done SET: the named set of the named port is what the bitset makes of it, every other set and every other word is as before, and the box
-- stays right; an ACK is written if asked
pub record DoneSet (box : Box) (state : State) (call : Call) (m : List ℕ) (h : MessageHeader) (o : Outcome State) : Type 0 where
  pub named : Named box.roll m
  pub is-set : named.command.change ≡ true
  pub bits : Bitset
  pub carries : Carries box m named bits
  pub own : Same (has (set_of box o.state named.target.position named.command.set))
      (effect bits (has (set_of box state named.target.position named.command.set)))
  pub others : (position : ℕ) (set : Set) → position < ports_in box → (named.target.position ≡ position → named.command.set ≡ set → ⊥)
      → set_of box o.state position set ≡ set_of box state position set
  pub elsewhere : (k : ℕ)
      → (k < place_in box named.target.position named.command.set)
      ⊎ (place_in box named.target.position named.command.set + width_in box named.command.set ≤ k)
      → get_or o.state.words k 0 ≡ get_or state.words k 0
  pub right : box_right box o.state call ≡ true
  pub bytes : o.response.bytes ≡ ack_if_asked m h

-- what the reply about the port at a position must say: its index and name, and the set of the command, compact with header flag 1
abbrev pub content_about : Box → State → Command → ℕ → ℕ → Content
content_about box state command flags position =
    record {
      index = (port_at box.roll position).index;
      name = (port_at box.roll position).name;
      compact = eqb (flags % 2) 1;
      names = list_of box.names command.set;
      words = set_of box state position command.set;
      bits = count (list_of box.names command.set);
    }

-- the reply of a GET about the port at a position, to a request with the header h: message flags 0
abbrev pub reply_about : Box → State → MessageHeader → Command → ℕ → ℕ → List ℕ
reply_about box state h command flags position = reply_bytes (heading_of h 0 command.reply) (content_about box state command flags position)

-- the reply to a GET: about the port that it names
abbrev pub reply_to : (box : Box) → State → (m : List ℕ) → MessageHeader → Named box.roll m → List ℕ
reply_to box state m h n = reply_about box state h n.command n.target.flags n.target.position

-- a reply has two attributes, the port's nest and the set's; and the set's contents, which our own reader accepts, make a stored set of every starting set
pub record TellsSet (reply names : List ℕ) (stored : ℕ → Bool) : Type 0 where
  pub contents : ℕ
  pub parts : attributes reply 20 ≡ attribute 1 2 24 (contents - 4) (attribute 2 2 contents (length reply) done)
  pub reads-back : ReadsBack reply contents names stored

-- a done GET: the settings stay; the reply is written, then the ACK if asked; and the reply tells the stored set
pub record DoneGet (box : Box) (state : State) (m : List ℕ) (h : MessageHeader) (o : Outcome State) : Type 0 where
  pub named : Named box.roll m
  pub is_get : named.command.change ≡ false
  pub keeps : o.state ≡ state
  pub bytes : o.response.bytes ≡ reply_to box state m h named ++ ack_if_asked m h
  pub tells : TellsSet (reply_to box state m h named) (list_of box.names named.command.set)
      (has (set_of box state named.target.position named.command.set))

-- a dump at the place of a port: the reply about this port that a GET would write, but "with the MULTI flag (2)", is written, and no ACK; it tells the stored set of
-- this port; "the next place and, until DONE, the same position"
pub record DonePort (box : Box) (state : State) (call : Call) (m : List ℕ) (h : MessageHeader) (d : DumpAsked m) (r : Response) : Type 0 where
  pub bytes : r.bytes ≡ with_multi (reply_about box state h d.command d.flags call.place)
  pub tells : TellsSet r.bytes (list_of box.names d.command.set) (has (set_of box state call.place d.command.set))
  pub next : r.next ≡ call.position
  pub place : r.place ≡ call.place + 1

-- a dump at the port count: DONE is written, and no ACK; the next call goes on behind the message, at place 0
pub record DoneLast (h : MessageHeader) (next : ℕ) (r : Response) : Type 0 where
  pub bytes : r.bytes ≡ done_bytes h
  pub next-is : r.next ≡ next
  pub place : r.place ≡ 0

-- a done call of a dump, after whose message the datagram goes on at a position: the settings stay, and it tells a port or the end
pub record DoneDump (box : Box) (state : State) (call : Call) (m : List ℕ) (h : MessageHeader) (next : ℕ) (o : Outcome State) : Type 0 where
  pub dump : DumpAsked m
  pub keeps : o.state ≡ state
  pub counted : call.place ≤ ports_in box
  pub port : call.place < ports_in box → DonePort box state call m h dump o.response
  pub last : call.place ≡ ports_in box → DoneLast h next o.response

-- the reply to a STRSET_GET with the header h about what it asks for: message flags 0, command 1
abbrev pub names_reply : Box → MessageHeader → Asked → List ℕ
names_reply box h asked = strset_reply (heading_of h 0 1) (strset_content_in box asked)

-- a done STRSET_GET: the settings stay; the reply about what it asks for is written, then the ACK if asked, at most 32,768 bytes together; and the reply, read by a client, tells the port
-- exactly where one is named, and of the ids that STRINGSETS lists each once, where it first stands, or the default, with its count and, unless COUNTS_ONLY stands, every entry of its list
pub record DoneStrset (box : Box) (state : State) (m : List ℕ) (h : MessageHeader) (o : Outcome State) : Type 0 where
  pub asked : Asked
  pub asks : asked_of m box.roll ≡ Ok asked
  pub keeps : o.state ≡ state
  pub bytes : o.response.bytes ≡ names_reply box h asked ++ ack_if_asked m h
  pub few : length o.response.bytes ≤ 32768
  pub port : List ToldName
  pub port-is : PortOf box.roll m port
  pub tells : reply_told (names_reply box h asked) ≡ told (record { port = port; sets = sets_of m box.names })
