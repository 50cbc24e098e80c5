-- Demand 1: "Any datagram, roll, name list or stored state gets an answer and an end. .. A refusal .. changes no setting, and writes the error
-- message fixed there or no byte at all."
--     refused-keeps    a refusal leaves the settings, and writes its error message (from 5 on) or nothing (1 to 4)
--     skipped-keeps    so do the end and a skipped message, and they write nothing
--     last-in-place    the end and 1 to 4 give the position back
--     next-is          every other call goes on after the message's step, or at the datagram's end where that is nearer; after a port's reply of a dump at
--                      the same position
--     place_is         a port's reply of a dump hands back the next place, every other answer 0
--     moves            so it moves on, by at least a header and not past the datagram's end, or to the next place
--     run_ends         so a run over a datagram ends, wherever it starts, places counted
use Prim.Native.Nat.{ℕ, suc, ◌+◌, ◌*◌, ◌≤◌}
use mathlib.Core.Path.{◌≡◌, refl, sym, ap, ◌∙◌}
use mathlib.Core.List.{List, []}
use mathlib.Core.Bool.{Bool, true, false, ◌&&◌, cond}
use mathlib.Core.Logic.{◌⊎◌, inl, inr}
use lib.ListN.{length}
use lib.Dec.{ltb}
use native.Mathlib.Omega.{arith}
use borrow.Author.Tests.{lt-ltb, le-ltb}
use Rattle.basics.proofs.Truth.{clash}
use Rattle.netlink_headers.specs.Headers.{message_header}
use Rattle.netlink_headers.specs.declared.headers.MessageHeader.{MessageHeader}
use Rattle.netlink_error.specs.Error.{error_message}
use Rattle.refusal.specs.Refusal.{number_of, errno_of, detail_of}
use Rattle.refusal.specs.declared.Refusal.{Refusal}
use Rattle.boxes.specs.Box.{Box, State, ports_in}
use Rattle.boxes.proofs.rule.Meaning.{box-means}
use Rattle.boxes.specs.declared.Call.{Call}
use Rattle.admission.specs.Admission.{is_dump}
use Rattle.netlink_dump.specs.Dump.{done_message}
use Rattle.response.specs.Answer.{Outcome, response_of, unchanged}
use Rattle.execute.specs.declared.Request.{Request}
use Rattle.execute.specs.Execute.{request_of, port_response, dump_response}
use Rattle.handler.proofs.call.Moves as H
use Rattle.handler.proofs.call.Moves.Onward.{behind, again as stays}
use Rattle.handler.specs.Call.{outcome, ends_run}
use Rattle.response.specs.declared.Kind.{Kind}
use Rattle.response.specs.declared.Kind.TheVariants.{End, Skipped, Done, Refused}
use Rattle.demands.specs.Answer.{refusal_bytes}
use Rattle.demands.specs.Message.{DumpAsked}
use Rattle.demands.specs.Request.{asks_dump}
use Rattle.demands.specs.Call.{message_of, next_of, tells_port, next_after, place_after}
use Rattle.demands.specs.CallCase.MessageCase.{message_skipped, message_refused, get_done, dump_done, strset_done, set_done}
use Rattle.demands.specs.CallCase.{CallCase}
use Rattle.demands.specs.CallCase.CallCase.{ended, not_read, message_answered}
use Rattle.demands.specs.Run.{MovesOn, ends_within}
use Rattle.demands.specs.Run.MovesOn.{further, again}
use Rattle.demands.proofs.First.{first-refused}
use Rattle.demands.proofs.Late.{message-number}
use Rattle.demands.proofs.Request.{dump-kind}
use Rattle.demands.proofs.CallCase.{call-case}
use Rattle.demands.proofs.Run.{moving-ends}

-- the bytes of a refusal, by its number
no-bytes-before-five : (m : List ℕ) (why : Refusal) → number_of why ≤ 4 → [] ≡ refusal_bytes m why
unfolding refusal_bytes
no-bytes-before-five m why l = sym (rw (lt-ltb (number_of why) 5 (omega arith)))

error-bytes : (m : List ℕ) (why : Refusal) → 5 ≤ number_of why → error_message m (errno_of why) (detail_of why) ≡ refusal_bytes m why
unfolding refusal_bytes
error-bytes m why l = sym (rw (le-ltb (number_of why) 5 l))

-- kinds are apart
end-not : (why : Refusal) → End ≡ Refused why → ⊥
end-not why e = let z : ◌≡◌ {A = ℕ} 0 1 = cc in omega arith

skipped-not : (why : Refusal) → Skipped ≡ Refused why → ⊥
skipped-not why e = let z : ◌≡◌ {A = ℕ} 0 1 = cc in omega arith

done-not : (why : Refusal) → Done ≡ Refused why → ⊥
done-not why e = let z : ◌≡◌ {A = ℕ} 0 1 = cc in omega arith

same-why : (w why : Refusal) → Refused w ≡ Refused why → w ≡ why
same-why w why e = cc

module _ (box : Box) (state : State) (call : Call) (datagram : List ℕ) (room : ℕ) where
  abbrev position : ℕ
  position = call.position

  abbrev o : Outcome State
  o = outcome box state call datagram room

  abbrev m : List ℕ
  m = message_of datagram position

  response : {p : Outcome State} → o ≡ p → p.response.kind ≡ o.response.kind
  response e = sym (ap (λ (x : Outcome State). x.response.kind) e)

  kept : {p : Outcome State} → o ≡ p → o.state ≡ p.state
  kept e = ap (λ (x : Outcome State). x.state) e

  bytes : {p : Outcome State} → o ≡ p → o.response.bytes ≡ p.response.bytes
  bytes e = ap (λ (x : Outcome State). x.response.bytes) e

  next : {p : Outcome State} → o ≡ p → o.response.next ≡ p.response.next
  next e = ap (λ (x : Outcome State). x.response.next) e

  place_of : {p : Outcome State} → o ≡ p → o.response.place ≡ p.response.place
  place_of e = ap (λ (x : Outcome State). x.response.place) e

  -- a dump is done
  dumped : (d : DumpAsked m) → o ≡ unchanged (dump_response box state (request_of call (message_header datagram position) (next_of datagram position) d.command) d.flags) state
      → Done ≡ o.response.kind
  dumped d e = sym (dump-kind box state _ d.flags) ∙ response e

  -- a refusal
  module _ (why : Refusal) (kind-of : o.response.kind ≡ Refused why) where
    pub refused-keeps : (o.state ≡ state) × (o.response.bytes ≡ refusal_bytes m why)
    refused-keeps = by (call-case box state call datagram room)
      where
        by : CallCase box state call datagram o → (o.state ≡ state) × (o.response.bytes ≡ refusal_bytes m why)
        by (ended e) = absurd (end-not why (response e ∙ kind-of))
        by (not_read w l e) =
            let same = same-why w why (response e ∙ kind-of) in
            (kept e, bytes e ∙ no-bytes-before-five m why (rw (← same) l))
        by (message_answered right lo hi long first (message_skipped e)) = absurd (skipped-not why (response e ∙ kind-of))
        by (message_answered right lo hi long first (get_done q d g e)) = absurd (done-not why (response e ∙ kind-of))
        by (message_answered right lo hi long first (strset_done q c a x l e)) = absurd (done-not why (response e ∙ kind-of))
        by (message_answered right lo hi long first (dump_done q d e)) = absurd (done-not why (dumped d e ∙ kind-of))
        by (message_answered right lo hi long first (set_done q d g b c e)) = absurd (done-not why (response e ∙ kind-of))
        by (message_answered right lo hi long first (message_refused w e)) =
            let same = same-why w why (response e ∙ kind-of) in
            let late = message-number box call m (message_header datagram position) why (first-refused why _ (sym first ∙ kind-of)) in
            (kept e, bytes e ∙ rw same (error-bytes m why late))

  -- the end, and a skipped message
  pub skipped-keeps : (o.response.kind ≡ End) ⊎ (o.response.kind ≡ Skipped) → (o.state ≡ state) × (o.response.bytes ≡ [])
  skipped-keeps kind-of = by (call-case box state call datagram room) kind-of
    where
      not_done : (o.response.kind ≡ End) ⊎ (o.response.kind ≡ Skipped) → Done ≡ o.response.kind → ⊥
      not_done (inl t) e = let q = e ∙ t in let z : ◌≡◌ {A = ℕ} 0 1 = cc in omega arith
      not_done (inr t) e = let q = e ∙ t in let z : ◌≡◌ {A = ℕ} 0 1 = cc in omega arith

      not-refused : (w : Refusal) → (o.response.kind ≡ End) ⊎ (o.response.kind ≡ Skipped) → Refused w ≡ o.response.kind → ⊥
      not-refused w (inl t) e = end-not w (sym (e ∙ t))
      not-refused w (inr t) e = skipped-not w (sym (e ∙ t))

      by : CallCase box state call datagram o → (o.response.kind ≡ End) ⊎ (o.response.kind ≡ Skipped)
          → (o.state ≡ state) × (o.response.bytes ≡ [])
      by (ended e) t = (kept e, bytes e)
      by (not_read w l e) t = absurd (not-refused w t (response e))
      by (message_answered right lo hi long first (message_skipped e)) t = (kept e, bytes e)
      by (message_answered right lo hi long first (get_done q d g e)) t = absurd (not_done t (response e))
      by (message_answered right lo hi long first (strset_done q c a x l e)) t = absurd (not_done t (response e))
      by (message_answered right lo hi long first (dump_done q d e)) t = absurd (not_done t (dumped d e))
      by (message_answered right lo hi long first (set_done q d g b c e)) t = absurd (not_done t (response e))
      by (message_answered right lo hi long first (message_refused w e)) t = absurd (not-refused w t (response e))

  -- the position
  over-clash : {p : Outcome State} → o ≡ p → ends_run p.response.kind ≡ false → ends_run o.response.kind ≡ true → ⊥
  over-clash e f t = clash (ap ends_run (response e) ∙ t) f

  pub last-in-place : ends_run o.response.kind ≡ true → o.response.next ≡ position
  last-in-place is = by (call-case box state call datagram room)
    where
      by : CallCase box state call datagram o → o.response.next ≡ position
      by (ended e) = next e
      by (not_read w l e) = next e
      by (message_answered right lo hi long first (message_skipped e)) = absurd (over-clash e refl is)
      by (message_answered right lo hi long first (get_done q d g e)) = absurd (over-clash e refl is)
      by (message_answered right lo hi long first (strset_done q c a x l e)) = absurd (over-clash e refl is)
      by (message_answered right lo hi long first (dump_done q d e)) = absurd (clash is (ap ends_run (sym (dumped d e))))
      by (message_answered right lo hi long first (set_done q d g b c e)) = absurd (over-clash e refl is)
      by (message_answered right lo hi long first (message_refused w e)) =
          let late = message-number box call m (message_header datagram position) w (first-refused w _ (sym first ∙ sym (response e))) in
          absurd (over-clash e (le-ltb (number_of w) 5 late) is)

  -- whether an answer is a port's reply of a dump
  abbrev h : MessageHeader
  h = message_header datagram position

  told : (t : Bool) → is_dump h ≡ t → tells_port box call datagram Done ≡ t && ltb call.place (ports_in box)
  unfolding tells_port asks_dump is_dump
  told t e = ap (λ (x : Bool). x && ltb call.place (ports_in box)) e

  -- where a message of a dump goes on
  module _ (request : Request) (flags : ℕ) where
    abbrev here : Bool
    here = ltb request.place (ports_in box)

    dump-next : (dump_response box state request flags).next ≡ cond here request.position request.next
    unfolding dump_response port_response
    dump-next = go here
      where
        go : (t : Bool) → (cond t (port_response box state request flags) (response_of Done request.next (done_message request.header))).next ≡ cond t request.position request.next
        go true = refl
        go false = refl

    dump-place : (dump_response box state request flags).place ≡ cond here (request.place + 1) 0
    unfolding dump_response port_response
    dump-place = go here
      where
        go : (t : Bool) → (cond t (port_response box state request flags) (response_of Done request.next (done_message request.header))).place ≡ cond t (request.place + 1) 0
        go true = refl
        go false = refl

  -- by the kind, and in a dump by the place
  module _ {A : Type 0} (yes no : A) where
    abbrev by_kind : Kind → A
    by_kind k = cond (tells_port box call datagram k) yes no

    quiet : {p : Outcome State} → o ≡ p → (k : Kind) → p.response.kind ≡ k → tells_port box call datagram k ≡ false → no ≡ by_kind o.response.kind
    quiet e k q f = sym (ap by_kind (sym (response e) ∙ q) ∙ ap (λ (t : Bool). cond t yes no) f)

    dumps : (d : DumpAsked m) → is_dump h ≡ true
        → (e : o ≡ unchanged (dump_response box state (request_of call h (next_of datagram position) d.command) d.flags) state)
        → cond (ltb call.place (ports_in box)) yes no ≡ by_kind o.response.kind
    dumps d q e = sym (ap by_kind (sym (dumped d e)) ∙ ap (λ (t : Bool). cond t yes no) (told true q))

  refused-quiet : (w : Refusal) → tells_port box call datagram (Refused w) ≡ false
  unfolding tells_port
  refused-quiet w = refl

  end_quiet : tells_port box call datagram End ≡ false
  unfolding tells_port
  end_quiet = refl

  skipped-quiet : tells_port box call datagram Skipped ≡ false
  unfolding tells_port
  skipped-quiet = refl

  -- every answer's place
  pub place_is : o.response.place ≡ place_after box call datagram o.response.kind
  place_is = by (call-case box state call datagram room)
    where
      by : CallCase box state call datagram o → o.response.place ≡ place_after box call datagram o.response.kind
      by (ended e) = place_of e ∙ quiet (call.place + 1) 0 e End refl end_quiet
      by (not_read w l e) = place_of e ∙ quiet (call.place + 1) 0 e (Refused w) refl (refused-quiet w)
      by (message_answered right lo hi long first (message_skipped e)) = place_of e ∙ quiet (call.place + 1) 0 e Skipped refl skipped-quiet
      by (message_answered right lo hi long first (message_refused w e)) = place_of e ∙ quiet (call.place + 1) 0 e (Refused w) refl (refused-quiet w)
      by (message_answered right lo hi long first (get_done q d g e)) = place_of e ∙ quiet (call.place + 1) 0 e Done refl (told false q)
      by (message_answered right lo hi long first (strset_done q c a x l e)) = place_of e ∙ quiet (call.place + 1) 0 e Done refl (told false q)
      by (message_answered right lo hi long first (set_done q d g b c e)) = place_of e ∙ quiet (call.place + 1) 0 e Done refl (told false q)
      by (message_answered right lo hi long first (dump_done q d e)) = place_of e ∙ dump-place _ d.flags ∙ dumps (call.place + 1) 0 d q e

  -- a message stands whole in the datagram, and the next call goes on after it, or in a dump at the same position
  module _ (going : ends_run o.response.kind ≡ false) where
    stopped : {p : Outcome State} → o ≡ p → ends_run p.response.kind ≡ true → ⊥
    stopped e t = clash (ap ends_run (sym (response e)) ∙ t) going

    pub next-is : o.response.next ≡ next_after box call datagram o.response.kind
    next-is = by (call-case box state call datagram room)
      where
        after : ℕ
        after = next_of datagram position

        by : CallCase box state call datagram o → o.response.next ≡ next_after box call datagram o.response.kind
        by (ended e) = absurd (stopped e refl)
        by (not_read w l e) = absurd (stopped e (lt-ltb (number_of w) 5 (omega arith)))
        by (message_answered right lo hi long first (message_skipped e)) = next e ∙ quiet position after e Skipped refl skipped-quiet
        by (message_answered right lo hi long first (message_refused w e)) = next e ∙ quiet position after e (Refused w) refl (refused-quiet w)
        by (message_answered right lo hi long first (get_done q d g e)) = next e ∙ quiet position after e Done refl (told false q)
        by (message_answered right lo hi long first (strset_done q c a x l e)) = next e ∙ quiet position after e Done refl (told false q)
        by (message_answered right lo hi long first (set_done q d g b c e)) = next e ∙ quiet position after e Done refl (told false q)
        by (message_answered right lo hi long first (dump_done q d e)) = next e ∙ dump-next _ d.flags ∙ dumps position after d q e

    pub moves : MovesOn (length datagram) call o.response
    moves =
        let moved = H.moves box state call datagram room going in
        by moved.onward moved.further moved.inside (box-means box state call moved.right).ports-few
      where
        by : {next : ℕ} → H.Onward (ports_in box) position call.place next o.response → position + 16 ≤ next → next ≤ length datagram → ports_in box ≤ 64
            → MovesOn (length datagram) call o.response
        by (behind n p) lo hi few = further (omega arith) (omega arith) p
        by (stays n p l) lo hi few = again n (omega arith) p (omega arith)

-- calls one after the other
pub run_ends : (box : Box) (datagram : List ℕ) (room : ℕ) (state : State) (call : Call)
    → ends_within (λ (s : State) (c : Call). outcome box s c datagram room) (suc (length datagram) * 65) state call ≡ true
run_ends box datagram room =
    moving-ends (λ (s : State) (c : Call). outcome box s c datagram room) (length datagram) (λ s c going. moves box s c datagram room going)
