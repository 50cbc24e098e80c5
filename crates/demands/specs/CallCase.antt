-- No promise rests on this file: what a message and a call come to, case by case, from which the theorems are shown.
use Rattle.std.specs.Prelude.{ℕ, ◌+◌, ◌≤◌, ◌≡◌, List, true, false, length, Some, Ok}
use Rattle.admission.specs.Admission.{is_dump}
use Rattle.netlink_headers.specs.declared.headers.MessageHeader.{MessageHeader}
use Rattle.refusal.specs.declared.Refusal.{Refusal}
use Rattle.bitset_form.specs.Bitset.{Bitset}
use Rattle.boxes.specs.Box.{Box, State}
use Rattle.response.specs.Answer.{Outcome, response_of, no_bytes, error_response, ack_bytes, unchanged}
use Rattle.execute.specs.Execute.{request_of, with_effect, get_bytes, dump_response}
use Rattle.response.specs.declared.Kind.TheVariants.{Skipped, Done, End, Refused}
use Rattle.basics.specs.Numbers.{u32_at, byte_at}
use Rattle.admission.specs.Commands.{command_of}
use Rattle.strset_request.specs.Asked.{asked_of}
use Rattle.strset_request.specs.declared.asked.Asked.{Asked}
use Rattle.strset.specs.Strset.{strset_content_in, strset_bytes}
use Rattle.netlink_headers.specs.Headers.{message_header}
use Rattle.refusal.specs.Refusal.{number_of}
use Rattle.boxes.specs.declared.Call.{Call}
use Rattle.boxes.specs.Rule.{box_right}
use Rattle.demands.specs.Check.{first_kind}
use Rattle.demands.specs.Request.{message_checks}
use Rattle.demands.specs.Call.{message_of, next_of}
use Rattle.demands.specs.Message.{Named, DumpAsked, Carries}
use Rattle.admission.specs.declared.commands.Listed.TheVariants.{Strset}

-- what a message comes to: nothing for a skipped one, an error message, a reply, a message of a dump, name lists, or a change of one set of one port
pub data MessageCase (box : Box) (state : State) (call : Call) (m : List ℕ) (h : MessageHeader) (next : ℕ) (o : Outcome State) : Type 0 where
  message_skipped : o ≡ unchanged (no_bytes Skipped next) state → MessageCase box state call m h next o
  message_refused : (why : Refusal) → o ≡ unchanged (error_response m next why) state → MessageCase box state call m h next o
  get_done : is_dump h ≡ false → (n : Named box.roll m) → n.command.change ≡ false
      → o ≡ unchanged (response_of Done next (get_bytes box state m (request_of call h next n.command) n.target)) state
      → MessageCase box state call m h next o
  dump_done : is_dump h ≡ true → (d : DumpAsked m) → o ≡ unchanged (dump_response box state (request_of call h next d.command) d.flags) state
      → MessageCase box state call m h next o
  strset_done : is_dump h ≡ false → command_of (byte_at m 16) ≡ Some Strset → (asked : Asked) → asked_of m box.roll ≡ Ok asked
      → length (strset_bytes m h (strset_content_in box asked)) ≤ 32768
      → o ≡ unchanged (response_of Done next (strset_bytes m h (strset_content_in box asked))) state → MessageCase box state call m h next o
  set_done : is_dump h ≡ false → (n : Named box.roll m) → n.command.change ≡ true → (b : Bitset) → Carries box m n b
      → o ≡ record { response = response_of Done next (ack_bytes m h); state = with_effect box state n.target.position n.command.set b }
      → MessageCase box state call m h next o

-- the end or a refusal by 1 to 4, which change nothing, say nothing and give the position back; or a message of a right box, which stands whole in
-- the datagram and after which the next call goes on
pub data CallCase (box : Box) (state : State) (call : Call) (datagram : List ℕ) (o : Outcome State) : Type 0 where
  ended : o ≡ unchanged (no_bytes End call.position) state → CallCase box state call datagram o
  not_read : (why : Refusal) → number_of why ≤ 4 → o ≡ unchanged (no_bytes (Refused why) call.position) state → CallCase box state call datagram o
  message_answered : box_right box state call ≡ true → 16 ≤ u32_at datagram call.position
      → call.position + u32_at datagram call.position ≤ length datagram
      → 16 ≤ length (message_of datagram call.position)
      → o.response.kind ≡ first_kind Done (message_checks box call (message_of datagram call.position) (message_header datagram call.position))
      → MessageCase box state call (message_of datagram call.position) (message_header datagram call.position)
      (next_of datagram call.position) o
      → CallCase box state call datagram o
