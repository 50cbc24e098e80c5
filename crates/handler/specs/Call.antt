-- Document 01, "What a call says back": one call, from the box to the answer.
use Rattle.std.specs.Prelude.{ℕ, List, Bool, true, false, cond, not, length, eqb, ltb, Result, Ok, Err}
use Rattle.netlink_headers.specs.Messages.{message_at}
use Rattle.netlink_attributes.specs.Attributes.{part_of}
use Rattle.netlink_headers.specs.declared.headers.MessageHeader.{MessageHeader}
use Rattle.netlink_headers.specs.declared.messages.MessageRead.{MessageRead}
use Rattle.netlink_headers.specs.declared.messages.MessageRead.TheVariants.{Message, Misstated, Cut, AtEnd, Outside}
use Rattle.refusal.specs.Refusal.{number_of}
use Rattle.refusal.specs.declared.Refusal.{Refusal}
use Rattle.refusal.specs.declared.Refusal.TheVariants as R
use Rattle.boxes.specs.Box.{Box, State}
use Rattle.boxes.specs.Rule.{box_right}
use Rattle.boxes.specs.declared.Call.{Call}
use Rattle.admission.specs.Admission.{admitted}
use Rattle.response.specs.Answer.{Outcome, no_bytes, error_response, unchanged}
use Rattle.strset.specs.Strset.{strset_response}
use Rattle.execute.specs.Execute.{request_of, request_outcome}
use Rattle.response.specs.declared.Kind.{Kind}
use Rattle.response.specs.declared.Kind.TheVariants.{End, Skipped, Done, Refused}
use Rattle.admission.specs.declared.Admission.{Admission}
use Rattle.admission.specs.declared.Admission.TheVariants as A

-- skipped, 5 to 9, a STRSET_GET answered, or the command executed
abbrev pub on_admission : Result Admission Refusal → Box → State → Call → List ℕ → MessageHeader → ℕ → Outcome State
on_admission (Ok A.Skipped) box state call m h next = unchanged (no_bytes Skipped next) state
on_admission (Err r) box state call m h next = unchanged (error_response m next r) state
on_admission (Ok A.Strset) box state call m h next = unchanged (strset_response box m h next) state
on_admission (Ok (A.Admitted command)) box state call m h next = request_outcome box state m (request_of call h next command)

-- the message m with its header h
unfoldable pub message_outcome : Box → State → Call → List ℕ → MessageHeader → ℕ → Outcome State
message_outcome box state call m h next = on_admission (admitted m h call.family (eqb call.admin 1)) box state call m h next

-- "1 to 4 write nothing", and they and the end give the position back
abbrev pub refused_in_place : Refusal → Call → State → Outcome State
refused_in_place r call state = unchanged (no_bytes (Refused r) call.position) state

-- "End is decided after 1, 2 and the first two causes of 3; skipping after 4"
abbrev pub on_message : MessageRead → Call → State → (MessageHeader → ℕ → ℕ → Outcome State) → Outcome State
on_message Outside call state f = refused_in_place R.Datagram call state
on_message AtEnd call state f = unchanged (no_bytes End call.position) state
on_message Cut call state f = refused_in_place R.Datagram call state
on_message Misstated call state f = refused_in_place R.Length call state
on_message (Message h end next) call state f = f h end next

-- the message that stands at the position of the datagram
unfoldable pub position_outcome : Box → State → Call → List ℕ → Outcome State
position_outcome box state call datagram =
    on_message (message_at datagram call.position) call state
    (λ h end next. message_outcome box state call (part_of datagram call.position end) h next)

-- what one call does: box (1), page (2), datagram (3), then the message at the position
unfoldable pub outcome : Box → State → Call → List ℕ → ℕ → Outcome State
outcome box state call datagram room =
    cond (not (box_right box state call)) (refused_in_place R.Box call state)
    (cond (ltb room 32768) (refused_in_place R.Page call state)
    (cond (ltb 32768 (length datagram)) (refused_in_place R.Datagram call state)
    (position_outcome box state call datagram)))

-- "up to the end or a refusal 1 to 4": whether calls one after the other end with this one
abbrev pub ends_run : Kind → Bool
ends_run End = true
ends_run Skipped = false
ends_run Done = false
ends_run (Refused why) = ltb (number_of why) 5
