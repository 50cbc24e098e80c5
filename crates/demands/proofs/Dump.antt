-- Request C-11: a dump as a whole, about what `ethnl_handle` answers.
--     whole-dump       at every place the call is done, if it is at one; each port is told as a GET of it would over the settings of that call, then DONE
--     dump-calls       over settings that stay, exactly ports + 1 calls are made
--     own-settings     what is told of a port depends on its own set of that call's settings alone
--     set-between      a SET between two calls changes what is told of its own port and set, to what its bitset makes of it, and nothing else
use Prim.Native.Nat.{ℕ, zero, suc, ◌+◌, ◌≤◌, ◌<◌}
use mathlib.Core.Path.{◌≡◌, refl, sym, ap, ◌∙◌}
use mathlib.Core.List.{List, ◌∷◌, ◌++◌, append-nil}
use mathlib.Core.Bool.{Bool, true, false}
use native.Mathlib.Omega.{arith}
use Rattle.basics.specs.Numbers.{byte_at}
use borrow.Author.Tests.{ltb-false, eqb-true, not-false}
use Rattle.basics.proofs.Truth.{false_of}
use Rattle.bits.specs.Set.{has}
use Rattle.bits.specs.Change.{Same}
use Rattle.bitset_form.specs.Bitset.{effect}
use Rattle.word_bytes.specs.Bytes.{Bytes}
use Rattle.netlink_headers.specs.Headers.{message_header}
use Rattle.netlink_headers.specs.declared.headers.MessageHeader.{MessageHeader}
use Rattle.refusal.specs.declared.Refusal.{Refusal}
use Rattle.roll.specs.Record.{port_at, index_of}
use Rattle.roll.specs.Find.{found_by_index}
use Rattle.roll_rule.proofs.Meaning.{port-right}
use Rattle.boxes.specs.Rule.{box_right}
use Rattle.admission.specs.Commands.{command_row}
use Rattle.admission.specs.declared.commands.Command.{Command}
use Rattle.request.specs.declared.parts.TopParts.{TopParts}
use Rattle.request.specs.Header.{header_of}
use Rattle.reply.specs.Message.{heading_of, reply_bytes}
use Rattle.reply.specs.declared.message.Heading.{Heading}
use Rattle.boxes.specs.Box.{Box, State, ports_in, set_of}
use Rattle.boxes.specs.declared.Call.{Call}
use Rattle.response.specs.Answer.{Response, Outcome}
use Rattle.response.specs.declared.Kind.TheVariants.{Done}
use Rattle.handler.specs.Bytes.{Stored, in_words, bytes_outcome}
use Rattle.demands.specs.Answer.{ack_if_asked, with_multi}
use Rattle.demands.specs.BoxRules.{StoredRules}
use Rattle.demands.specs.Check.{Check, refuse_if, first_kind}
use Rattle.demands.specs.Check.Check.{passes, refuses, ends, skips}
use Rattle.demands.specs.PortChecks.{no_port}
use Rattle.demands.specs.Request.{asks_dump, command_checks, admission_checks, message_checks}
use Rattle.demands.specs.Call.{message_of, next_of, call_checks}
use Rattle.demands.specs.Message.{DumpAsked}
use Rattle.demands.specs.Done.{content_about, reply_about, DoneSet, DoneGet, DonePort, DoneDump}
use Rattle.demands.specs.Stored.{stored_right, as_words}
use Rattle.demands.specs.Dump.{at_place, HandledGet, header_of_get, AsksOne, RepliesAlike, get_one, call_one, AsGetOne, WholeDump, Point, point_after, DumpCalls}
use Rattle.demands.proofs.BoxRoll.{roll-exactly, rules-counted, one_index}
use Rattle.demands.proofs.GetOne.{kind-is, sequence-is, port-is, asks-one, one-get, one-about-port, no-ack, names-one, one_passes}
use Rattle.demands.proofs.Missing.{index-missing}
use Rattle.demands.proofs.BoxRules.{stored-exactly}
use Rattle.demands.proofs.Stored as S
use Rattle.std.specs.Prelude.{Some, Ok}
use Rattle.admission.specs.declared.commands.Listed.TheVariants.{OfSet}
use Rattle.request.specs.declared.header.Header.{Header}

-- a box that is right at a place is right at every place up to the port count
right-at : (box : Box) (stored : Stored) (call : Call) (k : ℕ) → stored_right box stored call ≡ true → k ≤ ports_in box → stored_right box stored (at_place call k) ≡ true
right-at box stored call k right few =
    let kept = (stored-exactly box stored call).0 right in
    let rules = kept.1 in
    (stored-exactly box stored (at_place call k)).1 (
      kept.0,
      record {
        family-low = rules.family-low;
        family-high = rules.family-high;
        admin = rules.admin;
        roll = rules.roll;
        place = rw (← rules-counted box.roll rules.roll) few;
        debug = rules.debug;
        flags = rules.flags;
        settings = rules.settings;
      },
    )

-- of a right box the checks look at neither the place nor the settings
checks-same : (box : Box) (call : Call) (k : ℕ) (datagram : List ℕ) (room : ℕ)
    → first_kind Done (call_checks true box (at_place call k) datagram room) ≡ first_kind Done (call_checks true box call datagram room)
unfolding call_checks message_checks command_checks
checks-same box call k datagram room = refl

done_at : (box : Box) (a b : Stored) (call : Call) (k : ℕ) (datagram : List ℕ) (room : ℕ) → stored_right box a call ≡ true → stored_right box b (at_place call k) ≡ true
    → (bytes_outcome box a call datagram room).response.kind ≡ Done → (bytes_outcome box b (at_place call k) datagram room).response.kind ≡ Done
done_at box a b call k datagram room right there done =
    S.exact box b (at_place call k) datagram room
    ∙ ap (λ (t : Bool). first_kind Done (call_checks t box (at_place call k) datagram room)) there
    ∙ checks-same box call k datagram room
    ∙ ap (λ (t : Bool). first_kind Done (call_checks t box call datagram room)) (sym right)
    ∙ sym (S.exact box a call datagram room)
    ∙ done

-- what is known where every check passes: the page is long enough, and the message is of the family
passed-row : (t : Bool) (why : Refusal) (checks : List Check) → first_kind Done (refuse_if t why ∷ checks) ≡ Done → (t ≡ false) × (first_kind Done checks ≡ Done)
unfolding refuse_if first_kind
passed-row true why checks e = absurd (let z : ◌≡◌ {A = ℕ} 0 1 = cc in omega arith)
passed-row false why checks e = (refl, e)

passed-check : (c : Check) (checks : List Check) → first_kind Done (c ∷ checks) ≡ Done → first_kind Done checks ≡ Done
unfolding first_kind
passed-check passes checks e = e
passed-check (refuses why) checks e = absurd (let z : ◌≡◌ {A = ℕ} 0 1 = cc in omega arith)
passed-check ends checks e = absurd (let z : ◌≡◌ {A = ℕ} 0 1 = cc in omega arith)
passed-check skips checks e = absurd (let z : ◌≡◌ {A = ℕ} 0 1 = cc in omega arith)

checks-told : (box : Box) (call : Call) (datagram : List ℕ) (room : ℕ) → first_kind Done (call_checks true box call datagram room) ≡ Done
    → (32768 ≤ room) × ((message_header datagram call.position).kind ≡ call.family)
unfolding call_checks message_checks command_checks admission_checks
checks-told box call datagram room e =
    let page = passed-row _ _ _ (passed-check _ _ e) in
    let message = passed-check _ _ (passed-check _ _ (passed-check _ _ (passed-check _ _ (passed-check _ _ page.1)))) in
    let family = passed-row _ _ _ (passed-check _ _ message) in
    (ltb-false room 32768 page.0, eqb-true _ _ (not-false _ family.0))

-- the place and the position are not looked at but for the rule of places
right-one : (box : Box) (stored : Stored) (call : Call) → stored_right box stored (at_place call 0) ≡ true → stored_right box stored (call_one call) ≡ true
unfolding stored_right box_right
right-one box stored call e = e

-- a message asks for one dump only
one-command : (m : List ℕ) (d e : DumpAsked m) → d.command ≡ e.command
one-command m d e = let q = sym d.listed ∙ e.listed in cc

one-flags : (m : List ℕ) (d e : DumpAsked m) → d.flags ≡ e.flags
one-flags m d e =
    let top : Ok d.parts ≡ Ok e.parts = sym d.nests ∙ e.nests in
    let same : d.parts ≡ e.parts = cc in
    let head = sym d.read ∙ ap (λ (p : TopParts). header_of m p.header true) same ∙ e.read in
    let both : ◌≡◌ {A = Header} (record { parts = d.header; flags = d.flags }) (record { parts = e.header; flags = e.flags }) = cc in
    ap (λ (x : Header). x.flags) both

same-port : (box : Box) (state : State) (call : Call) (m : List ℕ) (h : MessageHeader) (d e : DumpAsked m) (r : Response) → DonePort box state call m h d r → DonePort box state call m h e r
same-port box state call m h d e r p =
    let c = one-command m d e in
    let f = one-flags m d e in
    record { bytes = rw (← c, ← f) p.bytes; tells = rw (← c) p.tells; next = p.next; place = p.place }

-- one dump, at all its places
module _ (box : Box) (call : Call) (datagram : List ℕ) (room : ℕ) (found : ℕ → Stored) (bytes : (k : ℕ) → Bytes (found k).settings)
    (right : (k : ℕ) → stored_right box (found k) (at_place call 0) ≡ true)
    (all : asks_dump (message_header datagram call.position) ≡ true)
    (begun : (bytes_outcome box (found 0) (at_place call 0) datagram room).response.kind ≡ Done) where
  abbrev m : List ℕ
  m = message_of datagram call.position

  abbrev h : MessageHeader
  h = message_header datagram call.position

  abbrev answer : ℕ → Outcome Stored
  answer k = bytes_outcome box (found k) (at_place call k) datagram room

  done : (k : ℕ) → k ≤ ports_in box → (answer k).response.kind ≡ Done
  done k few = done_at box (found 0) (found k) (at_place call 0) k datagram room (right 0) (right-at box (found k) (at_place call 0) k (right k) few) begun

  -- what each call does
  does : (k : ℕ) → k ≤ ports_in box → ((answer k).state ≡ found k) × DoneDump box (in_words (found k)) (at_place call k) m h (next_of datagram call.position) (as_words (answer k))
  does k few = S.dump box (found k) (at_place call k) datagram room (bytes k) (done k few) all

  first : DumpAsked m
  first = (does 0 (omega arith)).1.dump

  port : (k : ℕ) → k < ports_in box → DonePort box (in_words (found k)) (at_place call k) m h first (answer k).response
  port k l = let d = (does k (omega arith)).1 in same-port box (in_words (found k)) (at_place call k) m h d.dump first (answer k).response (d.port l)

  -- a GET's reply
  as-get : (k : ℕ) → k < ports_in box → (g : HandledGet box (found k)) → AsksOne g m h first k → RepliesAlike g (answer k).response
  as-get k l g asks =
      let n = g.got.named in
      let heading : heading_of (header_of_get g) 0 n.command.reply ≡ heading_of h 0 first.command.reply =
      cc (asks.family, asks.sequence, asks.port-id, ap (λ (c : Command). c.reply) asks.command) in
      let content : content_about box (in_words (found k)) n.command n.target.flags n.target.position ≡ content_about box (in_words (found k)) first.command first.flags k =
      rw (asks.command, asks.flags, asks.port) in
      record {
        reply = reply_about box (in_words (found k)) h first.command first.flags k;
        get =
            g.got.bytes
            ∙ ap (λ (r : List ℕ). r ++ ack_if_asked (message_of g.datagram g.call.position) (header_of_get g))
            (ap (λ (x : Heading). reply_bytes x (content_about box (in_words (found k)) n.command n.target.flags n.target.position)) heading
            ∙ ap (reply_bytes (heading_of h 0 first.command.reply)) content);
        dump = (port k l).bytes;
      }

  -- the GET by index
  module _ (k : ℕ) (l : k < ports_in box) (sequence : h.sequence < 4294967296) (port-id : h.port < 4294967296) where
    abbrev command : ℕ
    command = byte_at m 16

    abbrev index : ℕ
    index = (port_at box.roll k).index

    abbrev g : List ℕ
    g = get_one h command index first.flags

    abbrev one : Call
    one = call_one call

    abbrev got : Outcome Stored
    got = bytes_outcome box (found k) one g room

    rules : StoredRules box (found k) (at_place call 0)
    rules = (stored-exactly box (found k) (at_place call 0)).0 (right k)

    index-small : index < 4294967296
    unfolding index_of
    index-small = let s = (port-right box.roll ((roll-exactly box.roll).1 rules.1.roll) k l).small in omega arith

    known : no_port (found_by_index box.roll index) ≡ false
    known = false_of (no_port (found_by_index box.roll index)) (λ e. index-missing box.roll k l index e refl)

    passed : first_kind Done (call_checks true box call datagram room) ≡ Done
    passed =
        sym (checks-same box call 0 datagram room) ∙ ap (λ (t : Bool). first_kind Done (call_checks t box (at_place call 0) datagram room)) (sym (right 0))
        ∙ sym (S.exact box (found 0) (at_place call 0) datagram room) ∙ begun

    facts : (32768 ≤ room) × (h.kind ≡ call.family)
    facts = checks-told box call datagram room passed

    -- every check passes
    row : first.command ≡ command_row first.command.number false first.command.set first.command.reply first.command.dump
    row = ap (λ (t : Bool). command_row first.command.number t first.command.set first.command.reply first.command.dump) first.is_get

    done-one : got.response.kind ≡ Done
    done-one =
        let low = rules.1.family-low in
        let high = rules.1.family-high in
        let same = facts.1 in
        S.exact box (found k) one g room ∙ ap (λ (t : Bool). first_kind Done (call_checks t box one g room)) (right-one box (found k) call (right k))
        ∙ sym (one_passes h command index first.flags box call.family call.admin 0 room (omega arith) (omega arith) same facts.0
        first.command.number first.command.set first.command.reply first.command.dump (first.listed ∙ ap (λ (y : Command). Some (OfSet y)) row) first.flags-few index-small known)

    -- so it is a GET of this port
    get-of : DoneGet box (in_words (found k)) (message_of g 0) (message_header g 0) (as_words got)
    get-of =
        (S.read_back box (found k) one g room (bytes k) done-one
        (one-get h command index first.flags first.command first.listed first.is_get) (one-about-port h command index first.flags first.command first.listed) (asks-one h command index first.flags)).1

    handled : HandledGet box (found k)
    handled = record { call = one; datagram = g; room = room; done = done-one; got = get-of }

    asked : AsksOne handled m h first k
    unfolding handled
    asked =
        let n = get-of.named in
        let same = facts.1 in
        let high = rules.1.family-high in
        let is = names-one h command index first.flags box.roll n get-of.is_get first.flags-few index-small in
        record {
          command = let q = sym is.0 ∙ first.listed in cc;
          flags = is.1;
          port = one_index box.roll rules.1.roll n.target.position k n.port.inside l is.2;
          family = kind-is h command index first.flags (omega arith);
          sequence = sequence-is h command index first.flags sequence;
          port-id = port-is h command index first.flags port-id;
        }

    by_index : AsGetOne box (found k) call g room (answer k).response
    unfolding handled
    by_index =
        let alike = as-get k l handled asked in
        record {
          done = done-one;
          bytes =
              alike.dump
              ∙ ap with_multi (sym (alike.get ∙ ap (λ (a : List ℕ). alike.reply ++ a) (no-ack h command index first.flags) ∙ append-nil alike.reply));
        }

  pub whole-dump : WholeDump box call datagram room found
  whole-dump =
      record {
        dump = first;
        done = done;
        keeps = λ k few. (does k few).0;
        port = port;
        last = (does (ports_in box) (omega arith)).1.last refl;
        as-get = as-get;
        by_index = by_index;
      }

-- over settings that stay
module _ (box : Box) (call : Call) (datagram : List ℕ) (room : ℕ) (stored : Stored) (bytes : Bytes stored.settings)
    (right : stored_right box stored (at_place call 0) ≡ true)
    (all : asks_dump (message_header datagram call.position) ≡ true)
    (begun : (bytes_outcome box stored (at_place call 0) datagram room).response.kind ≡ Done) where
  whole : WholeDump box call datagram room (λ k. stored)
  whole = whole-dump box call datagram room (λ k. stored) (λ k. bytes) (λ k. right) all begun

  abbrev handles : Stored → Call → Outcome Stored
  handles s c = bytes_outcome box s c datagram room

  abbrev start : Point Stored
  start = record { state = stored; call = at_place call 0 }

  each : (k : ℕ) → k ≤ ports_in box → point_after handles k start ≡ record { state = stored; call = at_place call k }
  unfolding point_after
  each zero few = refl
  each (suc k) few =
      let before = each k (omega arith) in
      let tells = whole.port k (omega arith) in
      let kept = whole.keeps k (omega arith) in
      let up : k + 1 ≡ suc k = omega arith in
      rw before (cc (kept, tells.next, tells.place, up))

  pub dump-calls : DumpCalls box call datagram room stored
  unfolding point_after
  dump-calls =
      let before = each (ports_in box) (omega arith) in
      let last = whole.last in
      let kept = whole.keeps (ports_in box) (omega arith) in
      record { each = each; all = rw before (cc (kept, last.next-is, last.place)) }

-- a SET in between
pub own-settings : (box : Box) (a b : State) (h : MessageHeader) (command : Command) (flags k : ℕ) → set_of box a k command.set ≡ set_of box b k command.set
    → reply_about box a h command flags k ≡ reply_about box b h command flags k
own-settings box a b h command flags k same = rw same

pub set-between : (box : Box) (state : State) (call : Call) (m : List ℕ) (h g : MessageHeader) (o : Outcome State) → (d : DoneSet box state call m h o)
    → (command : Command) (flags k : ℕ) → k < ports_in box
    → ((d.named.target.position ≡ k → d.named.command.set ≡ command.set → ⊥) → reply_about box o.state g command flags k ≡ reply_about box state g command flags k)
    × (d.named.target.position ≡ k → d.named.command.set ≡ command.set
    → Same (has (set_of box o.state k command.set)) (effect d.bits (has (set_of box state k command.set))))
set-between box state call m h g o d command flags k inside = (
  λ other. own-settings box o.state state g command flags k (d.others k command.set inside other),
  λ p s. rw (← p, ← s) d.own,
)
