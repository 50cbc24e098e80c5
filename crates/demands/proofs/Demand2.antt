-- Demand 2: what a done request has brought about.
--     effect           a done SET: the named set of the named port is what `effect` makes of it, every other word is as before
--     read_back        a done GET that is no dump: the settings stay, and the reply's bitset, read by our own reader, makes the stored set of every starting set
--     dump             a done call of a dump: the settings stay, and the reply of the port at the place, or DONE, is written
--     box-kept         a right box stays right, whatever is asked
--     small-kept       words of 32 bits stay words of 32 bits
--     strset-done      a done STRSET_GET: the settings stay, and the reply tells the port, if one is named, and each list that is asked for
--     bytes_counted    what is written is whole messages, each as long as it states, and never more than 24,684 bytes, of a STRSET_GET 32,768
use Prim.Native.Nat.{ℕ, ◌+◌, ◌-◌, ◌≤◌, ◌<◌}
use mathlib.Core.Path.{◌≡◌, refl, sym, ap, ◌∙◌}
use mathlib.Core.List.{List, [], ◌++◌, append-nil}
use mathlib.Core.Logic.{⊎_elim}
use mathlib.Core.Bool.{Bool, true, false}
use lib.ListN.{length}
use borrow.Author.Tests.{lt-ltb, le-ltb}
use native.Mathlib.Omega.{arith}
use Rattle.basics.specs.Numbers.{byte_at}
use Rattle.basics.proofs.Order.{lt-or-ge}
use Rattle.basics.proofs.Truth.{clash}
use Rattle.bits.specs.Set.{has, words_for}
use Rattle.bits.specs.Change.{Below}
use Rattle.bits.proofs.Cut.{none_below}
use Rattle.word_bytes.proofs.WordBytes.{Small}
use Rattle.entries.specs.Entry.{count}
use Rattle.names.specs.Rule.{names_right}
use Rattle.netlink_headers.specs.Headers.{message_header}
use Rattle.netlink.specs.Policy.{nul_at}
use Rattle.netlink_headers.specs.declared.headers.MessageHeader.{MessageHeader}
use Rattle.index_name.specs.IndexName.{index_nest}
use Rattle.refusal.specs.Refusal.{errno_of, detail_of}
use Rattle.bitset_form.specs.Bitset.{Bitset}
use Rattle.normal.specs.Fits.{Fits}
use Rattle.normal.proofs.Fits.{accepted-fits}
use Rattle.roll.specs.Record.{index_of, name_of}
use Rattle.boxes.specs.Box.{Box, State, ports_in, sizes_in, widths_in, set_of}
use Rattle.boxes.specs.declared.Call.{Call}
use Rattle.boxes.specs.Rule.{box_right}
use Rattle.layout.specs.Layout.{list_of, size_of}
use Rattle.layout.specs.declared.Set.{Set}
use Rattle.layout.proofs.Laws.{lists_of, sizes-of, set-length}
use Rattle.boxes.proofs.rule.Meaning.{Right, box-means}
use Rattle.read_back.proofs.Reply.{reply-attributes, reply-back}
use Rattle.admission.specs.Commands.{command_of}
use Rattle.admission.specs.Admission.{is_dump}
use Rattle.admission.specs.declared.commands.Command.{Command}
use Rattle.netlink_dump.specs.Dump.{done_header, done_message}
use Rattle.netlink_write.specs.Headers.{message_header_bytes}
use Rattle.response.specs.Answer.{Response, Outcome, response_of, ack_bytes, unchanged}
use Rattle.handler.specs.Call.{outcome}
use Rattle.reply.specs.Message.{heading_of, headers_bytes, Content, reply_bytes}
use Rattle.reply.specs.declared.message.Heading.{Heading}
use Rattle.execute.specs.declared.Request.{Request}
use Rattle.execute.specs.Execute.{request_of, content_in, port_reply, get_bytes, port_response, dump_response}
use Rattle.strset.specs.Strset.{strset_bytes}
use Rattle.read_back.specs.Strset.Told.{told as reads}
use Rattle.response.specs.declared.Kind.TheVariants.{Done}
use Rattle.demands.specs.Answer.{ack_if_asked, done_bytes, with_multi, CountedTo, Counted, longest_answer}
use Rattle.demands.specs.Call.{message_of, next_of}
use Rattle.demands.specs.CallCase.{CallCase}
use Rattle.demands.specs.CallCase.CallCase.{ended, not_read, message_answered}
use Rattle.demands.specs.Message.{Named, DumpAsked, Carries}
use Rattle.demands.specs.CallCase.MessageCase.{message_skipped, message_refused, get_done, dump_done, strset_done, set_done}
use Rattle.demands.specs.Done.{DoneSet, content_about, reply_to, TellsSet, DoneGet, DonePort, DoneLast, DoneDump, DoneStrset}
use Rattle.demands.specs.Request.{is_set, is_strset, asks_dump}
use Rattle.demands.proofs.Count.{none-counted, error-counted, ack-counted, done-counted, reply-counted, within-longest}
use Rattle.demands.proofs.CallCase.{call-case}
use Rattle.demands.proofs.Effect.{after, set_own, set-others, set-elsewhere, set-small, set-right}
use Rattle.demands.proofs.Port.{port-short}
use Rattle.demands.proofs.NamesTold.{names-owed}
use Rattle.demands.proofs.DoneStrset.{names-told, strset-counted}

-- whether it is a SET is said by the command
module _ (roll m : List ℕ) (n : Named roll m) where
  named_set : is_set (command_of (byte_at m 16)) ≡ n.command.change
  unfolding is_set
  named_set = ap is_set n.listed

-- a reply with MULTI is the reply but for its message flags
multi-reply : (h : MessageHeader) (command : ℕ) (content : Content) → reply_bytes (heading_of h 2 command) content ≡ with_multi (reply_bytes (heading_of h 0 command) content)
unfolding reply_bytes headers_bytes message_header_bytes with_multi
multi-reply h command content = refl

-- the stored set of a right box: its names, its words, its bits
module _ (box : Box) (state : State) (call : Call) (right : box_right box state call ≡ true) (position : ℕ) (inside : position < ports_in box)
    (set : Set) where
  abbrev stored : List ℕ
  stored = set_of box state position set

  rules : Right box state call
  rules = box-means box state call right

  names-right : names_right (list_of box.names set) ≡ true
  names-right = rules.names-right set

  stored-long : length stored ≡ words_for (size_of (sizes_in box) set)
  unfolding set_of
  stored-long =
      set-length (ports_in box) (widths_in box) position set inside state.words rules.settings.exact
      ∙ sizes-of words_for (sizes_in box) set

  stored-below : Below (size_of (sizes_in box) set) (has stored)
  unfolding set_of
  stored-below =
      none_below stored (size_of (sizes_in box) set)
      (rules.settings.clear position inside set)

module _ (box : Box) (state : State) (call : Call) (datagram : List ℕ) (room : ℕ) where
  abbrev position : ℕ
  position = call.position

  abbrev o : Outcome State
  o = outcome box state call datagram room

  abbrev m : List ℕ
  m = message_of datagram position

  abbrev h : MessageHeader
  h = message_header datagram position

  kind-is : {p : Outcome State} → o ≡ p → p.response.kind ≡ o.response.kind
  kind-is e = sym (ap (λ (x : Outcome State). x.response.kind) e)

  bytes-are : {p : Outcome State} → o ≡ p → o.response.bytes ≡ p.response.bytes
  bytes-are e = ap (λ (x : Outcome State). x.response.bytes) e

  -- a SET
  module _ (right : box_right box state call ≡ true) (n : Named box.roll m) (change : n.command.change ≡ true) (b : Bitset)
      (carried : Carries box m n b) where
    fits : Fits (size_of (sizes_in box) n.command.set) b
    fits = rw (← lists_of count box.names n.command.set) at (accepted-fits _ _ (list_of box.names n.command.set) b carried)

    done-set : {p : Outcome State} → p.state ≡ after box state call right n.target.position n.port.inside n.command.set b fits
        → p.response.bytes ≡ ack_bytes m h → DoneSet box state call m h p
    unfolding ack_if_asked ack_bytes
    done-set ew eb =
        record {
          named = n;
          is-set = change;
          bits = b;
          carries = carried;
          own = rw ew (set_own box state call right n.target.position n.port.inside n.command.set b fits);
          others = rw ew (set-others box state call right n.target.position n.port.inside n.command.set b fits);
          elsewhere = rw ew (set-elsewhere box state call right n.target.position n.port.inside n.command.set b fits);
          right = rw ew (set-right box state call right n.target.position n.port.inside n.command.set b fits);
          bytes = eb;
        }

  -- the reply about a port
  module _ (right : box_right box state call ≡ true) (command : Command) (flags : ℕ) (k : ℕ) (inside : k < ports_in box) where
    abbrev content : Content
    content = content_about box state command flags k

    size_is : size_of (sizes_in box) command.set ≡ content.bits
    size_is = lists_of count box.names command.set

    -- what is shown is what must be
    content-is : content_in box state command.set (record { position = k; flags = flags }) ≡ content
    unfolding content_in index_of name_of
    content-is =
        ap
        (λ (bits : ℕ). record {
          index = content.index;
          name = content.name;
          compact = content.compact;
          names = content.names;
          words = content.words;
          bits = bits;
        })
        size_is

    short : nul_at content.name < 16
    short = port-short box.roll k (rules box state call right k inside command.set).roll-right inside

    named : names_right content.names ≡ true
    named = names-right box state call right k inside command.set

    long : length content.words ≡ words_for content.bits
    long = stored-long box state call right k inside command.set ∙ ap words_for size_is

    reply-tells : (heading : Heading) → TellsSet (reply_bytes heading content) (list_of box.names command.set) (has (set_of box state k command.set))
    reply-tells heading =
        let x = content.index in
        let the_name = content.name in
        let parts = reply-attributes heading x the_name content.compact content.names content.words content.bits named refl long short in
        let at : 24 + length (index_nest 1 x the_name) - 4 ≡ 20 + length (index_nest 1 x the_name) = omega arith in
        record {
          contents = 24 + length (index_nest 1 x the_name);
          parts = rw at parts;
          reads-back =
              reply-back heading x the_name content.compact content.names content.words content.bits named refl long
              (rw size_is at (stored-below box state call right k inside command.set));
        }

    about-counted : (heading : Heading) (rest : List ℕ) → Counted rest → length rest ≤ 36 → Counted (reply_bytes heading content ++ rest)
    about-counted heading = reply-counted heading content short named refl long

  -- a GET
  module _ (right : box_right box state call ≡ true) (n : Named box.roll m) where
    abbrev inside : n.target.position < ports_in box
    inside = n.port.inside

    got-bytes : (next : ℕ) → get_bytes box state m (request_of call h next n.command) n.target ≡ reply_to box state m h n ++ ack_if_asked m h
    unfolding get_bytes port_reply ack_if_asked ack_bytes
    got-bytes next =
        ap (λ (c : Content). reply_bytes (heading_of h 0 n.command.reply) c ++ ack_bytes m h)
        (content-is right n.command n.target.flags n.target.position inside)

    done-get : (next : ℕ) {p : Outcome State} → n.command.change ≡ false → p.state ≡ state
        → p.response.bytes ≡ get_bytes box state m (request_of call h next n.command) n.target → DoneGet box state m h p
    done-get next change ew eb =
        record {
          named = n;
          is_get = change;
          keeps = ew;
          bytes = eb ∙ got-bytes next;
          tells = reply-tells right n.command n.target.flags n.target.position inside (heading_of h 0 n.command.reply);
        }

    get-counted : (next : ℕ) → 16 ≤ length m → Counted (get_bytes box state m (request_of call h next n.command) n.target)
    unfolding ack_if_asked ack_bytes
    get-counted next most =
        let ack = ack-counted m h most in
        rw (got-bytes next)
        (about-counted right n.command n.target.flags n.target.position inside (heading_of h 0 n.command.reply) (ack_bytes m h) ack.0 ack.1)

  -- a dump
  module _ (right : box_right box state call ≡ true) (d : DumpAsked m) (next : ℕ) where
    abbrev request : Request
    request = request_of call h next d.command

    abbrev told : Response
    told = dump_response box state request d.flags

    abbrev heading : Heading
    heading = heading_of h 2 d.command.reply

    place-counted : call.place ≤ ports_in box
    place-counted = (box-means box state call right).place-counted

    at-port : call.place < ports_in box → told ≡ port_response box state request d.flags
    unfolding dump_response
    at-port l = rw (lt-ltb _ _ l)

    at-end : call.place ≡ ports_in box → told ≡ response_of Done next (done_message h)
    unfolding dump_response
    at-end e = rw (le-ltb call.place (ports_in box) (omega arith))

    -- the bytes of the port's reply
    port-bytes : call.place < ports_in box → told.bytes ≡ reply_bytes heading (content_about box state d.command d.flags call.place)
    unfolding port_response port_reply
    port-bytes l = ap (λ (r : Response). r.bytes) (at-port l) ∙ ap (reply_bytes heading) (content-is right d.command d.flags call.place l)

    done-port : call.place < ports_in box → DonePort box state call m h d told
    unfolding port_response
    done-port l =
        record {
          bytes = port-bytes l ∙ multi-reply h d.command.reply (content_about box state d.command d.flags call.place);
          tells = rw (port-bytes l) (reply-tells right d.command d.flags call.place l heading);
          next = ap (λ (r : Response). r.next) (at-port l);
          place = ap (λ (r : Response). r.place) (at-port l);
        }

    done-last : call.place ≡ ports_in box → DoneLast h next told
    unfolding done_message done_header message_header_bytes done_bytes
    done-last e =
        record {
          bytes = ap (λ (r : Response). r.bytes) (at-end e);
          next-is = ap (λ (r : Response). r.next) (at-end e);
          place = ap (λ (r : Response). r.place) (at-end e);
        }

    done-dump : {p : Outcome State} → p ≡ unchanged told state → DoneDump box state call m h next p
    done-dump e =
        rw e
        (record {
          dump = d;
          keeps = refl;
          counted = place-counted;
          port = done-port;
          last = done-last;
        })

    dump-counted : Counted told.bytes
    dump-counted =
        let few = place-counted in
        ⊎_elim
        (λ (l : call.place < ports_in box).
        rw (port-bytes l, ← append-nil (reply_bytes heading (content_about box state d.command d.flags call.place)))
        (about-counted right d.command d.flags call.place l heading [] none-counted (omega arith)))
        (λ (l : ports_in box ≤ call.place). rw (ap (λ (r : Response). r.bytes) (at-end (omega arith))) (done-counted h))
        (lt-or-ge call.place (ports_in box))

  -- the theorems
  abbrev is-set : Bool
  is-set = is_set (command_of (byte_at m 16))

  abbrev is-strset : Bool
  is-strset = is_strset (command_of (byte_at m 16))

  pub effect : o.response.kind ≡ Done → is-set ≡ true → DoneSet box state call m h o
  unfolding is_set
  effect kind-of request = by (call-case box state call datagram room)
    where
      by : CallCase box state call datagram o → DoneSet box state call m h o
      by (ended e) = absurd (let q = kind-is e ∙ kind-of in let z : ◌≡◌ {A = ℕ} 0 1 = cc in omega arith)
      by (not_read w l e) = absurd (let q = kind-is e ∙ kind-of in let z : ◌≡◌ {A = ℕ} 0 1 = cc in omega arith)
      by (message_answered right lo hi long first (message_skipped e)) = absurd (let q = kind-is e ∙ kind-of in let z : ◌≡◌ {A = ℕ} 0 1 = cc in omega arith)
      by (message_answered right lo hi long first (message_refused w e)) = absurd (let q = kind-is e ∙ kind-of in let z : ◌≡◌ {A = ℕ} 0 1 = cc in omega arith)
      by (message_answered right lo hi long first (get_done q n g e)) = absurd (clash request (named_set box.roll m n ∙ g))
      by (message_answered right lo hi long first (dump_done q d e)) = absurd (clash request (ap is_set d.listed ∙ d.is_get))
      by (message_answered right lo hi long first (strset_done q c a x l e)) = absurd (clash request (ap is_set c))
      by (message_answered right lo hi long first (set_done q n g b c e)) = rw e (done-set right n g b c refl refl)

  pub read_back : o.response.kind ≡ Done → is-set ≡ false → is-strset ≡ false → asks_dump h ≡ false → DoneGet box state m h o
  unfolding asks_dump is_dump is_strset
  read_back kind-of request other one = by (call-case box state call datagram room)
    where
      by : CallCase box state call datagram o → DoneGet box state m h o
      by (ended e) = absurd (let q = kind-is e ∙ kind-of in let z : ◌≡◌ {A = ℕ} 0 1 = cc in omega arith)
      by (not_read w l e) = absurd (let q = kind-is e ∙ kind-of in let z : ◌≡◌ {A = ℕ} 0 1 = cc in omega arith)
      by (message_answered right lo hi long first (message_skipped e)) = absurd (let q = kind-is e ∙ kind-of in let z : ◌≡◌ {A = ℕ} 0 1 = cc in omega arith)
      by (message_answered right lo hi long first (message_refused w e)) = absurd (let q = kind-is e ∙ kind-of in let z : ◌≡◌ {A = ℕ} 0 1 = cc in omega arith)
      by (message_answered right lo hi long first (get_done q n g e)) = rw e (done-get right n (next_of datagram position) g refl refl)
      by (message_answered right lo hi long first (dump_done q d e)) = absurd (clash q one)
      by (message_answered right lo hi long first (strset_done q c a x l e)) = absurd (clash (ap is_strset c) other)
      by (message_answered right lo hi long first (set_done q n g b c e)) = absurd (clash (named_set box.roll m n ∙ g) request)

  pub strset-done : o.response.kind ≡ Done → is-strset ≡ true → DoneStrset box state m h o
  unfolding is_strset strset_bytes ack_if_asked ack_bytes
  strset-done kind-of request = by (call-case box state call datagram room)
    where
      by : CallCase box state call datagram o → DoneStrset box state m h o
      by (ended e) = absurd (let q = kind-is e ∙ kind-of in let z : ◌≡◌ {A = ℕ} 0 1 = cc in omega arith)
      by (not_read w l e) = absurd (let q = kind-is e ∙ kind-of in let z : ◌≡◌ {A = ℕ} 0 1 = cc in omega arith)
      by (message_answered right lo hi long first (message_skipped e)) = absurd (let q = kind-is e ∙ kind-of in let z : ◌≡◌ {A = ℕ} 0 1 = cc in omega arith)
      by (message_answered right lo hi long first (message_refused w e)) = absurd (let q = kind-is e ∙ kind-of in let z : ◌≡◌ {A = ℕ} 0 1 = cc in omega arith)
      by (message_answered right lo hi long first (get_done q n g e)) = absurd (clash request (ap is_strset n.listed))
      by (message_answered right lo hi long first (dump_done q d e)) = absurd (clash request (ap is_strset d.listed))
      by (message_answered right lo hi long first (set_done q n g b c e)) = absurd (clash request (ap is_strset n.listed))
      by (message_answered right lo hi long first (strset_done q c a x l e)) =
          let owed = names-owed box m a x in
          rw e (record { asked = a; asks = x; keeps = refl; bytes = refl; few = l; port = owed.0; port-is = owed.1; tells = names-told box state call right m h a x ∙ ap reads owed.2 })

  pub dump : o.response.kind ≡ Done → asks_dump h ≡ true → DoneDump box state call m h (next_of datagram position) o
  unfolding asks_dump is_dump
  dump kind-of all = by (call-case box state call datagram room)
    where
      by : CallCase box state call datagram o → DoneDump box state call m h (next_of datagram position) o
      by (ended e) = absurd (let q = kind-is e ∙ kind-of in let z : ◌≡◌ {A = ℕ} 0 1 = cc in omega arith)
      by (not_read w l e) = absurd (let q = kind-is e ∙ kind-of in let z : ◌≡◌ {A = ℕ} 0 1 = cc in omega arith)
      by (message_answered right lo hi long first (message_skipped e)) = absurd (let q = kind-is e ∙ kind-of in let z : ◌≡◌ {A = ℕ} 0 1 = cc in omega arith)
      by (message_answered right lo hi long first (message_refused w e)) = absurd (let q = kind-is e ∙ kind-of in let z : ◌≡◌ {A = ℕ} 0 1 = cc in omega arith)
      by (message_answered right lo hi long first (get_done q n g e)) = absurd (clash all q)
      by (message_answered right lo hi long first (dump_done q d e)) = done-dump right d (next_of datagram position) e
      by (message_answered right lo hi long first (strset_done q c a x l e)) = absurd (clash all q)
      by (message_answered right lo hi long first (set_done q n g b c e)) = absurd (clash all q)

  pub box-kept : box_right box state call ≡ true → box_right box o.state call ≡ true
  box-kept kept = by (call-case box state call datagram room)
    where
      same : {p : Outcome State} → o ≡ p → p.state ≡ state → box_right box o.state call ≡ true
      same e q = rw (ap (λ (x : Outcome State). x.state) e ∙ q) kept

      by : CallCase box state call datagram o → box_right box o.state call ≡ true
      by (ended e) = same e refl
      by (not_read w l e) = same e refl
      by (message_answered right lo hi long first (message_skipped e)) = same e refl
      by (message_answered right lo hi long first (message_refused w e)) = same e refl
      by (message_answered right lo hi long first (get_done q n g e)) = same e refl
      by (message_answered right lo hi long first (dump_done q d e)) = same e refl
      by (message_answered right lo hi long first (strset_done q c a x l e)) = same e refl
      by (message_answered right lo hi long first (set_done q n g b c e)) =
          rw e (set-right box state call right n.target.position n.port.inside n.command.set b (fits right n g b c))

  pub small-kept : Small state.words → Small o.state.words
  small-kept small = by (call-case box state call datagram room)
    where
      same : {p : Outcome State} → o ≡ p → p.state ≡ state → Small o.state.words
      same e q = rw (ap (λ (x : Outcome State). x.state) e ∙ q) small

      by : CallCase box state call datagram o → Small o.state.words
      by (ended e) = same e refl
      by (not_read w l e) = same e refl
      by (message_answered right lo hi long first (message_skipped e)) = same e refl
      by (message_answered right lo hi long first (message_refused w e)) = same e refl
      by (message_answered right lo hi long first (get_done q n g e)) = same e refl
      by (message_answered right lo hi long first (dump_done q d e)) = same e refl
      by (message_answered right lo hi long first (strset_done q c a x l e)) = same e refl
      by (message_answered right lo hi long first (set_done q n g b c e)) =
          rw e (set-small box state call right n.target.position n.port.inside n.command.set b (fits right n g b c) small)

  pub bytes_counted : CountedTo (longest_answer is-strset) o.response.bytes
  unfolding is_strset longest_answer
  bytes_counted = by (call-case box state call datagram room)
    where
      within : {bytes : List ℕ} → Counted bytes → CountedTo (longest_answer is-strset) bytes
      within counted = within-longest is-strset counted

      by : CallCase box state call datagram o → CountedTo (longest_answer is-strset) o.response.bytes
      by (ended e) = rw (bytes-are e) (within none-counted)
      by (not_read w l e) = rw (bytes-are e) (within none-counted)
      by (message_answered right lo hi long first (message_skipped e)) = rw (bytes-are e) (within none-counted)
      by (message_answered right lo hi long first (message_refused w e)) = rw (bytes-are e) (within (error-counted m long (errno_of w) (detail_of w)))
      by (message_answered right lo hi long first (get_done q n g e)) = rw (bytes-are e) (within (get-counted right n (next_of datagram position) long))
      by (message_answered right lo hi long first (dump_done q d e)) = rw (bytes-are e) (within (dump-counted right d (next_of datagram position)))
      by (message_answered right lo hi long first (strset_done q c a x l e)) = rw (bytes-are e, c) (strset-counted box m h a long l)
      by (message_answered right lo hi long first (set_done q n g b c e)) = rw (bytes-are e) (within (ack-counted m h long).0)
