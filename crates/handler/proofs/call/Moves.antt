-- Where a call goes on: behind its message, by at least a header and not past the datagram's end, at place 0; or at the same position, at the next place.
use Prim.Native.Nat.{ℕ, ◌+◌, ◌≤◌, ◌<◌, min}
use mathlib.Core.Path.{◌≡◌, refl}
use mathlib.Core.List.{List}
use mathlib.Core.Bool.{Bool, true, false, cond, not, ◌||◌}
use lib.ListN.{length}
use lib.Dec.{eqb, ltb}
use native.Mathlib.Omega.{arith}
use borrow.Author.Tests.{ltb-true, ltb-false}
use Rattle.basics.specs.Numbers.{u32_at}
use Rattle.basics.proofs.Truth.{clash}
use Rattle.netlink_headers.specs.Lengths.{round_up4}
use Rattle.netlink_headers.specs.Headers.{message_header}
use Rattle.netlink_headers.specs.Messages.{message_at}
use Rattle.netlink_headers.specs.declared.headers.MessageHeader.{MessageHeader}
use Rattle.netlink_headers.specs.declared.messages.MessageRead.TheVariants.{Message, Misstated, Cut, AtEnd, Outside}
use Rattle.netlink_attributes.specs.Attributes.{part_of}
use Rattle.netlink.specs.declared.walk.Slot.{Slot}
use Rattle.refusal.specs.declared.Refusal.TheVariants as R
use Rattle.bitset_form.specs.Bitset.{Reading}
use Rattle.bitset_form.specs.Bitset.Reading.{refused, accepted}
use Rattle.bitset.specs.Judge.{bitset_reading}
use Rattle.layout.specs.Layout.{list_of}
use Rattle.boxes.specs.Box.{Box, State, ports_in}
use Rattle.boxes.specs.Rule.{box_right}
use Rattle.boxes.specs.declared.Call.{Call}
use Rattle.request.specs.declared.target.Target.{Target}
use Rattle.admission.specs.Admission.{is_dump, admitted}
use Rattle.netlink_dump.specs.Dump.{done_message}
use Rattle.request.specs.Top.{top_of}
use Rattle.request.specs.Target.{target_of}
use Rattle.request.specs.declared.parts.TopParts.{TopParts}
use Rattle.response.specs.Answer.{Response, Outcome, response_of, unchanged}
use Rattle.response.specs.declared.Kind.TheVariants.{Done}
use Rattle.strset.proofs.Laws.{strset-behind}
use Rattle.execute.specs.declared.Request.{Request}
use Rattle.execute.specs.Execute.{request_of, get_bytes, port_response, dump_response, reading_outcome, set_outcome, port_outcome, target_outcome, header_outcome, top_outcome, request_outcome}
use Rattle.handler.specs.Call.{on_admission, message_outcome, refused_in_place, on_message, position_outcome, outcome, ends_run}
use Rattle.std.specs.Prelude.{Result, Ok, Err}
use Rattle.refusal.specs.declared.Refusal.{Refusal}
use Rattle.request.specs.declared.target.Addressee.{Addressee}
use Rattle.admission.specs.declared.Admission.{Admission}
use Rattle.admission.specs.declared.Admission.TheVariants as A
use Rattle.request.specs.declared.target.Addressee.TheVariants as P

-- where the calls go on after a message: behind it at place 0, or in a dump at its own position and the next place, which is at most the port count
pub data Onward (ports position place next : ℕ) (r : Response) : Type 0 where
  behind : r.next ≡ next → r.place ≡ 0 → Onward ports position place next r
  again : r.next ≡ position → r.place ≡ place + 1 → place < ports → Onward ports position place next r

-- whatever a message comes to
module _ (box : Box) (state : State) (m : List ℕ) where
  module _ (request : Request) where
    abbrev GoesOn : Outcome State → Type 0
    GoesOn o = Onward (ports_in box) request.position request.place request.next o.response

    set-onward : (bitset : Slot) (position : ℕ) → GoesOn (set_outcome box state m request bitset position)
    unfolding set_outcome
    set-onward bitset position = by (bitset_reading (part_of m 0 bitset.end) bitset.start (list_of box.names request.command.set))
      where
        by : (x : Reading) → GoesOn (reading_outcome x box state m request position)
        by (refused r) = behind refl refl
        by (accepted b) = behind refl refl

    port-onward : (bitset : Slot) (target : Target) → GoesOn (port_outcome box state m request bitset target)
    unfolding port_outcome
    port-onward bitset target = by request.command.change
      where
        by : (t : Bool)
            → GoesOn (cond t (set_outcome box state m request bitset target.position) (unchanged (response_of Done request.next (get_bytes box state m request target)) state))
        by true = set-onward bitset target.position
        by false = behind refl refl

    dump-onward : (flags : ℕ) → GoesOn (unchanged (dump_response box state request flags) state)
    unfolding dump_response port_response
    dump-onward flags = by (ltb request.place (ports_in box)) refl
      where
        by : (t : Bool) → ltb request.place (ports_in box) ≡ t
            → GoesOn (unchanged (cond t (port_response box state request flags) (response_of Done request.next (done_message request.header))) state)
        by true e = again refl refl (ltb-true _ _ e)
        by false e = behind refl refl

    header-onward : (parts : TopParts) → GoesOn (header_outcome box state m request parts)
    unfolding header_outcome
    header-onward parts = by (target_of m parts.header (is_dump request.header) box.roll)
      where
        by : (x : Result Addressee Refusal) → GoesOn (target_outcome x box state m request (port_outcome box state m request parts.bitset))
        by (Err r) = behind refl refl
        by (Ok (P.Unnamed flags)) = dump-onward flags
        by (Ok (P.Port target)) = port-onward parts.bitset target

    request-onward : GoesOn (request_outcome box state m request)
    unfolding request_outcome
    request-onward = by (top_of m request.command.change)
      where
        by : (x : Result TopParts Refusal) → GoesOn (top_outcome x state m request (header_outcome box state m request))
        by (Err r) = behind refl refl
        by (Ok parts) = header-onward parts

  pub message-onward : (call : Call) (h : MessageHeader) (next : ℕ)
      → Onward (ports_in box) call.position call.place next (message_outcome box state call m h next).response
  unfolding message_outcome
  message-onward call h next = by (admitted m h call.family (eqb call.admin 1))
    where
      by : (x : Result Admission Refusal) → Onward (ports_in box) call.position call.place next (on_admission x box state call m h next).response
      by (Ok A.Skipped) = behind refl refl
      by (Err r) = behind refl refl
      by (Ok A.Strset) = let s = strset-behind box m h next in behind s.0 s.1
      by (Ok (A.Admitted command)) = request-onward (request_of call h next command)

module _ (box : Box) (state : State) (call : Call) (datagram : List ℕ) (room : ℕ) where
  abbrev position : ℕ
  position = call.position

  abbrev stated : ℕ
  stated = u32_at datagram position

  abbrev after : ℕ
  after = min (position + round_up4 stated) (length datagram)

  -- the box is right, and the call goes on behind its message or at the next place
  pub record Moved (r : Response) : Type 0 where
    pub right : box_right box state call ≡ true
    pub onward : Onward (ports_in box) position call.place after r
    pub further : position + 16 ≤ after
    pub inside : after ≤ length datagram

  abbrev Moves : Outcome State → Type 0
  Moves o = ends_run o.response.kind ≡ false → Moved o.response

  -- the message at the position
  position-moves : box_right box state call ≡ true → Moves (position_outcome box state call datagram)
  unfolding position_outcome message_at
  position-moves right =
      by (ltb (length datagram) position) (eqb position (length datagram)) (ltb (length datagram) (position + 16)) (ltb stated 16)
      (ltb (length datagram) (position + stated)) refl refl
    where
      by : (past end cut low high : Bool) → ltb stated 16 ≡ low → ltb (length datagram) (position + stated) ≡ high
          → Moves
          (on_message
          (cond past Outside (cond end AtEnd (cond cut Cut (cond (low || high) Misstated (Message (message_header datagram position) (position + stated) after)))))
          call state (λ h end next. message_outcome box state call (part_of datagram position end) h next))
      by true end cut low high el eh e = absurd (clash refl e)
      by false true cut low high el eh e = absurd (clash refl e)
      by false false true low high el eh e = absurd (clash refl e)
      by false false false true high el eh e = absurd (clash refl e)
      by false false false false true el eh e = absurd (clash refl e)
      by false false false false false el eh e =
          let lo = ltb-false stated 16 el in
          let hi = ltb-false (length datagram) (position + stated) eh in
          record {
            right = right;
            onward = message-onward box state (part_of datagram position (position + stated)) call (message_header datagram position) after;
            further = omega arith;
            inside = omega arith;
          }

  pub moves : Moves (outcome box state call datagram room)
  unfolding outcome
  moves = by (box_right box state call) refl (ltb room 32768) (ltb 32768 (length datagram))
    where
      by : (right : Bool) → box_right box state call ≡ right → (page long : Bool)
          → Moves
          (cond (not right) (refused_in_place R.Box call state)
          (cond page (refused_in_place R.Page call state)
          (cond long (refused_in_place R.Datagram call state) (position_outcome box state call datagram))))
      by false q page long e = absurd (clash refl e)
      by true q true long e = absurd (clash refl e)
      by true q false true e = absurd (clash refl e)
      by true q false false e = position-moves q e
