-- Laws of the answers that write a reply: one for each return.
use Prim.Native.Nat.{ℕ, ◌+◌, ◌-◌, ◌%◌, ◌≤◌, ◌<◌}
use mathlib.Core.Path.{◌≡◌, sym, ap, ◌∙◌}
use mathlib.Core.List.{List}
use lib.ListN.{length, take, drop}
use lib.Dec.{eqb}
use native.Mathlib.Omega.{arith}
use borrow.Author.Tests.{lt-ltb, le-ltb}
use borrow.Rule.Slice.PartMut.{put_mid}
use Rattle.bits.specs.Set.{words_for}
use Rattle.page.specs.Page.{Wrote}
use Rattle.page.proofs.Page.{wrote_then}
use Rattle.netlink_dump.specs.Dump.{done_message}
use Rattle.roll.specs.Record.{port_count, index_of, name_of}
use Rattle.roll.proofs.table.Laws.{name-long}
use Rattle.layout.specs.Layout.{list_of, size_of}
use Rattle.layout.specs.declared.Set.{Set}
use Rattle.layout.specs.declared.Sizes.{Sizes}
use Rattle.layout.proofs.Laws.{sizes-of, size_few, set-length}
use Rattle.boxes.specs.Box.{Box, State, ports_in, sizes_in, widths_in, set_of}
use Rattle.reply.specs.Message.{heading_of, Content, content_of, reply_bytes}
use Rattle.reply.specs.declared.message.Heading.{Heading}
use Rattle.request.specs.declared.target.Target.{Target}
use Rattle.response.specs.Answer.{response_of, ack_bytes, Responds}
use Rattle.response.specs.declared.Answer.{Answer}
use Rattle.response.specs.declared.Kind.TheVariants.{Done}
use Rattle.response.proofs.Laws.{wrote-responds}
use Rattle.execute.specs.declared.Request.{Request}
use Rattle.execute.specs.Execute.{content_in, port_reply, get_bytes, port_response, dump_response}
use Rattle.execute.specs.Fit.{Fit}

-- what a reply requires
module _ (box : Box) (state : State) (fit : Fit box state) (set : Set) (sizes : Sizes) (n : ℕ) (es : sizes ≡ sizes_in box) (en : n ≡ size_of sizes set) where
  pub reply-words : (position : ℕ) (held : List ℕ) → position < ports_in box → held ≡ set_of box state position set → length held ≡ words_for n
  unfolding set_of
  reply-words position held here eh =
      ap length eh ∙ set-length (ports_in box) (widths_in box) position set here state.words fit.exact ∙ sizes-of words_for (sizes_in box) set ∙ sym (rw (en, es))

  pub reply-few : n ≤ 512
  reply-few = rw (en, es) (size_few 512 (sizes_in box) set fit.few)

pub reply-name : (roll nm : List ℕ) (k : ℕ) → k < port_count roll → nm ≡ name_of roll k → length nm ≤ 16
reply-name roll nm k l e = rw e (omega (arith, name-long roll k l))

pub ruleset reply-laws = (reply-words, reply-few, reply-name)

-- the reply about a set of a port
module _ (box : Box) (state : State) (set : Set) (target : Target) where
  pub content-is : (index : ℕ) (name names words : List ℕ) (sizes : Sizes) (bits : ℕ) → index ≡ index_of box.roll target.position
      → name ≡ name_of box.roll target.position → names ≡ list_of box.names set → words ≡ set_of box state target.position set → sizes ≡ sizes_in box
      → bits ≡ size_of sizes set → content_of index name (eqb (target.flags % 2) 1) names words bits ≡ content_in box state set target
  unfolding content_in
  content-is index name names words sizes bits ei en el ew es eb = let size : bits ≡ size_of (sizes_in box) set = eb ∙ rw es in rw (ei, en, el, ew, size)

pub port-wrote : (box : Box) (state : State) (request : Request) (flags : ℕ) (target : Target) (heading : Heading) (content : Content) (P Q : List ℕ) (r : ℕ)
    → heading ≡ heading_of request.header flags request.command.reply → content ≡ content_in box state request.command.set target
    → Wrote (reply_bytes heading content) P Q r → Wrote (port_reply box state request flags target) P Q r
unfolding port_reply
port-wrote box state request flags target heading content P Q r eh ec w = rw (← eh, ← ec) w

pub ruleset port-laws = (content-is, port-wrote)

-- a GET
pub get-responds : (box : Box) (state : State) (m : List ℕ) (request : Request) (target : Target) (P A B : List ℕ) (r a : ℕ) → 32768 ≤ length P → r ≤ 26700
    → Wrote (port_reply box state request 0 target) P A r → Wrote (ack_bytes m request.header) (take (length A - r) (drop r A)) B a
    → Responds (response_of Done request.next (get_bytes box state m request target)) P (put_mid r (length A - r) A B)
    (record { kind = Done; next = request.next; place = 0; written = r + a })
unfolding get_bytes
get-responds box state m request target P A B r a room l wa wb =
    wrote-responds Done request.next _ P _ (r + a)
    (wrote_then P A B (port_reply box state request 0 target) (ack_bytes m request.header) r a (omega arith) wa wb)

-- a dump at the place of a port
pub port-responds : (box : Box) (state : State) (request : Request) (flags : ℕ) (P Q : List ℕ) (r : ℕ)
    → Wrote (port_reply box state request 2 (record { position = request.place; flags = flags })) P Q r
    → Responds (port_response box state request flags) P Q (record { kind = Done; next = request.position; place = request.place + 1; written = r })
unfolding port_response
port-responds box state request flags P Q r w =
    record { result = ap (λ (n : ℕ). record { kind = Done; next = request.position; place = request.place + 1; written = n }) w.count; page = w.page }

-- and at any place
module _ (box : Box) (state : State) (request : Request) (flags ports : ℕ) (ep : ports ≡ ports_in box) (P Q : List ℕ) where
  pub dump-responds : (r : Answer) → request.place < ports → Responds (port_response box state request flags) P Q r → Responds (dump_response box state request flags) P Q r
  unfolding dump_response
  dump-responds r l s = rw (← ep, lt-ltb _ _ l) s

  pub dump-ends : (r : ℕ) → ports ≤ request.place → Wrote (done_message request.header) P Q r
      → Responds (dump_response box state request flags) P Q (record { kind = Done; next = request.next; place = 0; written = r })
  unfolding dump_response
  dump-ends r l w = rw (← ep, le-ltb _ _ l) (wrote-responds Done request.next _ P Q r w)

pub ruleset dump-laws = (dump-responds, dump-ends)

pub dump-here : (roll : List ℕ) (ports k : ℕ) → ports ≡ port_count roll → k < ports → k < port_count roll
dump-here roll ports k ep l = rw (← ep) l
