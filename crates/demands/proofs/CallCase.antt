-- Every call comes to the end, to a refusal by 1 to 4, or to a message that is answered.
use Prim.Native.Nat.{ℕ, ◌+◌, ◌-◌, ◌≤◌}
use mathlib.Core.Path.{◌≡◌, refl, sym, ap, ◌∙◌}
use mathlib.Core.List.{List}
use mathlib.Core.Bool.{Bool, true, false, ◌||◌, not, cond}
use lib.ListN.{length, drop, length-drop}
use lib.Dec.{eqb, ltb}
use lib.Seq.{length-take-le}
use native.Mathlib.Omega.{arith}
use borrow.Author.Tests.{ltb-false}
use Rattle.basics.specs.Numbers.{u32_at}
use Rattle.netlink_attributes.specs.Attributes.{part_of}
use Rattle.netlink_headers.specs.Headers.{message_header}
use Rattle.netlink_headers.specs.Messages.{message_at}
use Rattle.netlink_headers.specs.declared.messages.MessageRead.TheVariants.{Message, Misstated, Cut, AtEnd, Outside}
use Rattle.netlink_attributes.proofs.Laws.{part_in}
use Rattle.refusal.specs.declared.Refusal.TheVariants as R
use Rattle.boxes.specs.Box.{Box, State}
use Rattle.boxes.specs.declared.Call.{Call}
use Rattle.boxes.specs.Rule.{box_right}
use Rattle.handler.specs.Call.{refused_in_place, on_message, message_outcome, position_outcome, outcome}
use Rattle.demands.specs.Call.{message_of, next_of}
use Rattle.demands.specs.CallCase.{CallCase}
use Rattle.demands.specs.CallCase.CallCase.{ended, not_read, message_answered}
use Rattle.demands.proofs.Request.{message-first}
use Rattle.demands.proofs.Message.{message-case}

module _ (box : Box) (state : State) (call : Call) (datagram : List ℕ) where
  abbrev position : ℕ
  position = call.position

  abbrev stated : ℕ
  stated = u32_at datagram position

  abbrev next : ℕ
  next = next_of datagram position

  long : 16 ≤ stated → position + stated ≤ length datagram → 16 ≤ length (message_of datagram position)
  unfolding message_of
  long lo hi =
      let l : length (part_of datagram position (position + stated)) ≡ stated =
      ap length (sym (part_in datagram position (position + stated) (omega arith) hi))
      ∙ length-take-le (position + stated - position) (drop position datagram) (rw (length-drop position datagram) (omega arith))
      ∙ (let e : position + stated - position ≡ stated = omega arith in e) in
      omega arith

  message : box_right box state call ≡ true → 16 ≤ stated → position + stated ≤ length datagram
      → CallCase box state call datagram
      (message_outcome box state call (message_of datagram position) (message_header datagram position) next)
  message right lo hi =
      let m = message_of datagram position in
      let h = message_header datagram position in
      message_answered right lo hi (long lo hi)
      (message-first box state call m h next) (message-case box state call m h next)

  -- the message at the position
  position-case : box_right box state call ≡ true → CallCase box state call datagram (position_outcome box state call datagram)
  unfolding position_outcome message_at message_of
  position-case right =
      go (ltb (length datagram) position) (eqb position (length datagram)) (ltb (length datagram) (position + 16)) (ltb stated 16)
      (ltb (length datagram) (position + stated)) refl refl
    where
      go : (past end cut low high : Bool) → ltb stated 16 ≡ low → ltb (length datagram) (position + stated) ≡ high
          → CallCase box state call datagram
          (on_message
          (cond past Outside
          (cond end AtEnd
          (cond cut Cut
          (cond (low || high) Misstated (Message (message_header datagram position) (position + stated) next)))))
          call state
          (λ h end next. message_outcome box state call (part_of datagram position end) h next))
      go true end cut low high el eh = not_read R.Datagram (omega arith) refl
      go false true cut low high el eh = ended refl
      go false false true low high el eh = not_read R.Datagram (omega arith) refl
      go false false false true high el eh = not_read R.Length (omega arith) refl
      go false false false false true el eh = not_read R.Length (omega arith) refl
      go false false false false false el eh =
          message right (ltb-false stated 16 el) (ltb-false (length datagram) (position + stated) eh)

  pub call-case : (room : ℕ) → CallCase box state call datagram (outcome box state call datagram room)
  unfolding outcome
  call-case room = go (box_right box state call) (ltb room 32768) (ltb 32768 (length datagram)) refl
    where
      go : (right page long : Bool) → box_right box state call ≡ right
          → CallCase box state call datagram
          (cond (not right) (refused_in_place R.Box call state)
          (cond page (refused_in_place R.Page call state)
          (cond long (refused_in_place R.Datagram call state) (position_outcome box state call datagram))))
      go false page long e = not_read R.Box (omega arith) refl
      go true true long e = not_read R.Page (omega arith) refl
      go true false true e = not_read R.Datagram (omega arith) refl
      go true false false e = position-case e
