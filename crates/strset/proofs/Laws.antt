-- Laws of the answer to a STRSET_GET: one for each return, and the room that each writer needs.
use Prim.Native.Nat.{ℕ, ◌+◌, ◌-◌, ◌≤◌, ◌<◌}
use mathlib.Core.Path.{◌≡◌, refl, sym, ap, ◌∙◌}
use mathlib.Core.List.{List, [], ◌∷◌, append-nil}
use mathlib.Core.Bool.{Bool, true, false, cond}
use lib.ListN.{length, take, drop, length-append}
use lib.Dec.{ltb}
use native.Mathlib.Omega.{arith}
use borrow.Author.Tests.{lt-ltb, le-ltb}
use borrow.Rule.Slice.PartMut.{put_mid}
use Rattle.basics.proofs.Put.{length_rest}
use Rattle.page.specs.Page.{Wrote}
use Rattle.page.proofs.Page.{wrote_then}
use Rattle.netlink_headers.specs.declared.headers.MessageHeader.{MessageHeader}
use Rattle.refusal.specs.declared.Refusal.{Refusal}
use Rattle.refusal.specs.declared.Refusal.TheVariants.{LongReply}
use Rattle.layout.specs.Layout.{names_of}
use Rattle.roll.specs.Record.{port_count, index_of, name_of}
use Rattle.roll.proofs.table.Laws.{name-long}
use Rattle.boxes.specs.Box.{Box, box_of}
use Rattle.request.specs.Optional.{optional_target_of}
use Rattle.request.proofs.target.Place.{TargetIn, optional-counted}
use Rattle.reply.specs.Message.{heading_of}
use Rattle.reply.specs.declared.message.Heading.{Heading}
use Rattle.response.specs.Answer.{response_of, error_response, ack_bytes, ack_length, Responds}
use Rattle.response.specs.declared.Answer.{Answer}
use Rattle.response.specs.declared.Kind.TheVariants.{Done}
use Rattle.response.proofs.Laws.{wrote-responds, length-ack, ack-whole-or-none}
use Rattle.strset_request.specs.Top.{strset_top_of}
use Rattle.strset_request.specs.List.{list_reading}
use Rattle.strset_request.specs.Asked.{with_sets, on_target, sets_asked, asked_of}
use Rattle.strset_request.specs.declared.top.StrsetParts.{StrsetParts}
use Rattle.strset_request.specs.declared.list.Sets.{Sets}
use Rattle.strset_request.specs.declared.asked.Asked.{Asked}
use Rattle.strset_reply.specs.Message.{StrsetContent, strset_content_of, strset_attributes, strset_reply}
use Rattle.strset_reply.proofs.message.Lengths.{length-reply}
use Rattle.strset.specs.Strset.{index_in, name_in, strset_content_in, strset_bytes, content_response, asked_response, strset_response}
use Rattle.strset.specs.PortNamed.{PortNamed}
use Rattle.std.specs.Prelude.{Option, Some, None, Result, Ok, Err, is_some}
use Rattle.basics.specs.Results.{and_then}
use Rattle.request.specs.declared.target.Addressee.{Addressee}
use Rattle.request.specs.declared.target.Addressee.TheVariants as T

no_bytes : (s : List ℕ) → length s ≡ 0 → s ≡ []
no_bytes [] e = refl
no_bytes (x ∷ s) e = absurd (omega arith)

-- the reply and the ACK
module _ (m : List ℕ) (h : MessageHeader) (c : StrsetContent) (hd : Heading) (eh : hd ≡ heading_of h 0 1) (long : 16 ≤ length m)
    (P : List ℕ) (room : length (strset_bytes m h c) ≤ length P) where
  total : length (strset_bytes m h c) ≡ length (strset_reply hd c) + ack_length h
  unfolding strset_bytes
  total =
      rw eh (omega (arith, length-append (strset_reply (heading_of h 0 1) c) (ack_bytes m h), length-ack h m long))

  pub reply-room : length (strset_reply hd c) ≤ length P
  reply-room = omega (arith, total)

  module _ (A : List ℕ) (r : ℕ) (w : Wrote (strset_reply hd c) P A r) where
    pub reply-alone : (a : ℕ) → a ≡ ack_length h → a ≡ 0 → Wrote (strset_bytes m h c) P A r
    unfolding strset_bytes
    reply-alone a ea z =
        let none : ack_bytes m h ≡ [] = no_bytes (ack_bytes m h) (length-ack h m long ∙ sym ea ∙ z) in
        rw (none, append-nil (strset_reply (heading_of h 0 1) c), ← eh) w

    pub ack-room : (a : ℕ) → a ≡ ack_length h → (a ≡ 0 → ⊥) → length A ≡ length P → 36 ≤ length (take (length A - r) (drop r A))
    ack-room a ea n el =
        let asked = ack-whole-or-none h (λ z. n (ea ∙ z)) in
        omega (arith, total, w.count, length_rest r A)

    pub both-wrote : (B : List ℕ) (k : ℕ) → Wrote (ack_bytes m h) (take (length A - r) (drop r A)) B k
        → Wrote (strset_bytes m h c) P (put_mid r (length A - r) A B) (r + k)
    unfolding strset_bytes
    both-wrote B k wb =
        rw (← eh) (wrote_then P A B (strset_reply hd c) (ack_bytes m h) r k (omega (arith, total, w.count)) w wb)

pub ruleset put-laws = (reply-room, reply-alone, ack-room, both-wrote)

-- the answer about a port or about none, by its length
module _ (m : List ℕ) (h : MessageHeader) (next : ℕ) (named : Bool) (index : ℕ) (name debug flags : List ℕ) (sets : Sets) (counts : Bool) (long : 16 ≤ length m)
    (l a : ℕ) (el : l ≡ length (strset_attributes (strset_content_of named index name (names_of debug flags) sets counts)) + 20) (ea : a ≡ ack_length h) where
  abbrev content : StrsetContent
  content = strset_content_of named index name (names_of debug flags) sets counts

  sum : length (strset_bytes m h content) ≡ l + a
  unfolding strset_bytes
  sum =
      omega (
        arith,
        length-append (strset_reply (heading_of h 0 1) content) (ack_bytes m h),
        length-ack h m long,
        length-reply named index name debug flags sets counts (heading_of h 0 1),
      )

  pub content-long : (P Q : List ℕ) (r : Answer) → 32768 < l + a → Responds (error_response m next LongReply) P Q r
      → Responds (content_response m h next (strset_content_of named index name (names_of debug flags) sets counts)) P Q r
  unfolding content_response
  content-long P Q r over w = rw (lt-ltb 32768 (length (strset_bytes m h content)) (omega (arith, sum))) w

  module _ (fits : l + a ≤ 32768) where
    pub content-room : (P : List ℕ) → 32768 ≤ length P → length (strset_bytes m h (strset_content_of named index name (names_of debug flags) sets counts)) ≤ length P
    content-room P room = omega (arith, sum)

    pub content-wrote : (P Q : List ℕ) (w : ℕ) → Wrote (strset_bytes m h (strset_content_of named index name (names_of debug flags) sets counts)) P Q w
        → Responds (content_response m h next (strset_content_of named index name (names_of debug flags) sets counts)) P Q
        (record { kind = Done; next = next; place = 0; written = w })
    unfolding content_response
    content-wrote P Q w x =
        rw (le-ltb 32768 (length (strset_bytes m h content)) (omega (arith, sum))) (wrote-responds Done next (strset_bytes m h content) P Q w x)

pub ruleset content-laws = (content-long, content-room, content-wrote)

-- the port that is named, if any
module _ (roll : List ℕ) (port : Option ℕ) where
  pub index-none : port ≡ None → 0 ≡ index_in roll port
  unfolding index_in
  index-none e = sym (rw e)

  pub name-none : (name : List ℕ) → port ≡ None → name ≡ [] → name ≡ name_in roll port
  unfolding name_in
  name-none name e en = en ∙ sym (rw e)

  module _ (k : ℕ) (e : port ≡ Some k) where
    pub port-inside : PortNamed roll port → k < port_count roll
    unfolding PortNamed
    port-inside p = rw e at p

    pub index-some : (index : ℕ) → index ≡ index_of roll k → index ≡ index_in roll port
    unfolding index_in
    index-some index ei = ei ∙ sym (rw e)

    pub name-some : (name : List ℕ) → name ≡ name_of roll k → name ≡ name_in roll port
    unfolding name_in
    name-some name en = en ∙ sym (rw e)

pub ruleset port-laws = (index-none, name-none, port-inside, index-some, name-some)

-- its name is that of a port, or none
pub port-name : (roll name : List ℕ) (port : Option ℕ) → PortNamed roll port → name ≡ name_in roll port → length name ≤ 16
unfolding name_in PortNamed
port-name roll name None p e = omega (arith, ap length e)
port-name roll name (Some k) p e = omega (arith, ap length e, name-long roll k p)

-- what is asked for
pub asked-content : (roll debug flags m : List ℕ) (h : MessageHeader) (next : ℕ) (asked : Asked) (P Q : List ℕ) (r : Answer) (named : Bool) (index : ℕ) (name : List ℕ)
    → named ≡ is_some asked.port → index ≡ index_in roll asked.port → name ≡ name_in roll asked.port
    → Responds (content_response m h next (strset_content_of named index name (names_of debug flags) asked.sets asked.counts)) P Q r
    → Responds (content_response m h next (strset_content_in (box_of roll debug flags) asked)) P Q r
unfolding strset_content_in
asked-content roll debug flags m h next asked P Q r named index name en ei ea w = rw (en, ei, ea) at w

pub ruleset asked-laws = (port-name, asked-content)

-- a refusal, or what is asked for
module _ (roll debug flags m : List ℕ) (h : MessageHeader) (next : ℕ) (x : Result Asked Refusal) (ex : x ≡ asked_of m roll) (P Q : List ℕ) (r : Answer) where
  pub strset-refused : (why : Refusal) → x ≡ Err why → Responds (error_response m next why) P Q r
      → Responds (strset_response (box_of roll debug flags) m h next) P Q r
  unfolding strset_response
  strset-refused why q w = rw (sym ex ∙ q) w

  pub strset-asked : (asked : Asked) → x ≡ Ok asked → Responds (content_response m h next (strset_content_in (box_of roll debug flags) asked)) P Q r
      → Responds (strset_response (box_of roll debug flags) m h next) P Q r
  unfolding strset_response
  strset-asked asked q w = rw (sym ex ∙ q) w

-- the port that is named is one of the roll's
module _ (roll : List ℕ) where
  abbrev AskedIn : Result Asked Refusal → Type 0
  AskedIn (Err why) = 0 ≤ length roll
  AskedIn (Ok asked) = PortNamed roll asked.port

  sets-in : (l : Result Sets Refusal) (port : Option ℕ) (counts : Bool) → PortNamed roll port → AskedIn (with_sets l port counts)
  sets-in (Err why) port counts p = omega arith
  sets-in (Ok sets) port counts p = p

  target-in : (m : List ℕ) (parts : StrsetParts) (t : Result Addressee Refusal) → TargetIn roll t → AskedIn (on_target t (sets_asked m parts))
  unfolding sets_asked PortNamed
  target-in m parts (Err why) p = omega arith
  target-in m parts (Ok (T.Unnamed f)) p = sets-in (list_reading m parts.sets false) None parts.counts.present tt
  target-in m parts (Ok (T.Port target)) p =
      sets-in (list_reading m parts.sets true) (Some target.position) parts.counts.present p

  asked_in : (m : List ℕ) → AskedIn (asked_of m roll)
  unfolding asked_of
  asked_in m = go (strset_top_of m)
    where
      go : (top : Result StrsetParts Refusal) → AskedIn (and_then top (λ parts. on_target (optional_target_of m parts.header roll) (sets_asked m parts)))
      go (Err why) = omega arith
      go (Ok parts) = target-in m parts (optional_target_of m parts.header roll) (optional-counted roll m parts.header)

  pub asked-inside : (m : List ℕ) (x : Result Asked Refusal) (asked : Asked) → x ≡ asked_of m roll → x ≡ Ok asked → PortNamed roll asked.port
  asked-inside m x asked ex q = rw (sym ex ∙ q) at (asked_in m)

pub ruleset strset-laws = (strset-refused, strset-asked, asked-inside)

-- every answer goes on behind the message, at place 0
pub strset-behind : (box : Box) (m : List ℕ) (h : MessageHeader) (next : ℕ) → ((strset_response box m h next).next ≡ next) × ((strset_response box m h next).place ≡ 0)
unfolding strset_response content_response
strset-behind box m h next = go (asked_of m box.roll)
  where
    by : (t : Bool) (bytes : List ℕ) → ((cond t (error_response m next LongReply) (response_of Done next bytes)).next ≡ next)
        × ((cond t (error_response m next LongReply) (response_of Done next bytes)).place ≡ 0)
    by true bytes = (refl, refl)
    by false bytes = (refl, refl)

    go : (x : Result Asked Refusal) → ((asked_response x box m h next).next ≡ next) × ((asked_response x box m h next).place ≡ 0)
    go (Err why) = (refl, refl)
    go (Ok asked) =
        by (ltb 32768 (length (strset_bytes m h (strset_content_in box asked)))) (strset_bytes m h (strset_content_in box asked))
