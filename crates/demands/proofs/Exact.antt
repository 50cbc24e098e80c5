-- Demands 1 and 2, "accepted exactly when the rules in document 01 .. accept it" and "A refusal carries its number from document 01".
--     exact            the kind is that of the first check, in document 01's order, that does not pass; it is done where all pass
--     done-exactly     done exactly when every check passes
--     refused-exactly  refused by a row of the table exactly when that row applies and every check before it passes
use Prim.Native.Nat.{ℕ, ◌+◌, min}
use mathlib.Core.Path.{◌≡◌, refl, sym, ◌∙◌}
use mathlib.Core.List.{List, ◌∷◌}
use mathlib.Core.Bool.{◌||◌, not, cond}
use lib.ListN.{length}
use lib.Dec.{eqb, ltb}
use Rattle.basics.specs.Numbers.{u32_at}
use Rattle.netlink_attributes.specs.Attributes.{part_of}
use Rattle.netlink_headers.specs.Headers.{message_header}
use Rattle.netlink_headers.specs.Lengths.{round_up4}
use Rattle.netlink_headers.specs.Messages.{message_at}
use Rattle.netlink_headers.specs.declared.messages.MessageRead.{MessageRead}
use Rattle.netlink_headers.specs.declared.messages.MessageRead.TheVariants.{Message, Misstated, Cut, AtEnd, Outside}
use Rattle.refusal.specs.declared.Refusal.{Refusal}
use Rattle.refusal.specs.declared.Refusal.TheVariants as R
use Rattle.boxes.specs.Box.{Box, State}
use Rattle.boxes.specs.declared.Call.{Call}
use Rattle.boxes.specs.Rule.{box_right}
use Rattle.response.specs.Answer.{Outcome}
use Rattle.handler.specs.Call.{refused_in_place, on_message, message_outcome, position_outcome, outcome}
use Rattle.response.specs.declared.Kind.{Kind}
use Rattle.response.specs.declared.Kind.TheVariants.{Done, Refused}
use Rattle.demands.specs.Check.{Check, refuse_if, first_kind, AllPass, FirstIs}
use Rattle.demands.specs.Check.Check.{ends}
use Rattle.demands.specs.Request.{message_checks}
use Rattle.demands.specs.Call.{message_of, end_if, call_checks}
use Rattle.demands.proofs.First.{step, stop_step, end, first_done, done_first, first-refused, refused-first}
use Rattle.demands.proofs.Request.{kind, message-first}

module _ (box : Box) (state : State) (call : Call) (datagram : List ℕ) (room : ℕ) where
  abbrev position : ℕ
  position = call.position

  abbrev answered : Outcome State
  answered = outcome box state call datagram room

  abbrev checks : List Check
  checks = call_checks (box_right box state call) box call datagram room

  abbrev called : MessageRead → Outcome State
  called read =
      on_message read call state (λ h end next. message_outcome box state call (part_of datagram position end) h next)

  abbrev read-kind : MessageRead → Kind
  read-kind read = kind (called read)

  message : MessageRead
  message = Message (message_header datagram position) (position + u32_at datagram position) (min (position + round_up4 (u32_at datagram position)) (length datagram))

  read_first : read-kind (message_at datagram position)
      ≡ first_kind Done
      (refuse_if (ltb (length datagram) position) R.Datagram
      ∷ end_if datagram position
      ∷ refuse_if (ltb (length datagram) (position + 16)) R.Datagram
      ∷ refuse_if (ltb (u32_at datagram position) 16 || ltb (length datagram) (position + u32_at datagram position)) R.Length
      ∷ message_checks box call (message_of datagram position) (message_header datagram position))
  unfolding message_at end_if message_of message
  read_first =
      let wrong = ltb (u32_at datagram position) 16 || ltb (length datagram) (position + u32_at datagram position) in
      let cut = ltb (length datagram) (position + 16) in
      let over = eqb position (length datagram) in
      step read-kind Done (ltb (length datagram) position) R.Datagram Outside (cond over AtEnd (cond cut Cut (cond wrong Misstated message))) _ refl
      (stop_step read-kind Done over ends AtEnd (cond cut Cut (cond wrong Misstated message)) _ (end Done _)
      (step read-kind Done cut R.Datagram Cut (cond wrong Misstated message) _ refl
      (step read-kind Done wrong R.Length Misstated message _ refl
      (message-first box state call (part_of datagram position (position + u32_at datagram position)) (message_header datagram position) _))))

  pub exact : answered.response.kind ≡ first_kind Done checks
  unfolding outcome position_outcome call_checks
  exact =
      let rest = called (message_at datagram position) in
      let long = ltb 32768 (length datagram) in
      step kind Done (not (box_right box state call)) R.Box (refused_in_place R.Box call state) _ _ refl
      (step kind Done (ltb room 32768) R.Page (refused_in_place R.Page call state) (cond long (refused_in_place R.Datagram call state) rest) _ refl
      (step kind Done long R.Datagram (refused_in_place R.Datagram call state) rest _ refl read_first))

  pub done-exactly : (answered.response.kind ≡ Done → AllPass checks) × (AllPass checks → answered.response.kind ≡ Done)
  done-exactly = (λ e. first_done checks (sym exact ∙ e), λ a. exact ∙ done_first a)

  pub refused-exactly : (why : Refusal)
      → (answered.response.kind ≡ Refused why → FirstIs why checks) × (FirstIs why checks → answered.response.kind ≡ Refused why)
  refused-exactly why = (λ e. first-refused why checks (sym exact ∙ e), λ f. exact ∙ refused-first why f)
