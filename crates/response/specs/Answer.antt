-- Document 01, "What a call says back", and request C-11: kind, refusal number, next position, next place, bytes written, and the state, whatever it holds.
use Rattle.std.specs.Prelude.{ℕ, ◌/◌, ◌%◌, ◌≡◌, List, [], cond, length, eqb}
use Rattle.basics.specs.Put.{put}
use Rattle.netlink_headers.specs.declared.headers.MessageHeader.{MessageHeader}
use Rattle.netlink_error.specs.Error.{error_message}
use Rattle.netlink_error.specs.declared.Detail.TheVariants.{Nothing}
use Rattle.refusal.specs.Refusal.{number_of, errno_of, detail_of}
use Rattle.refusal.specs.declared.Refusal.{Refusal}
use Rattle.response.specs.declared.Kind.{Kind}
use Rattle.response.specs.declared.Kind.TheVariants.{End, Skipped, Done, Refused}
use Rattle.response.specs.declared.Answer.{Answer}

-- "a kind (end, skipped, done, refused)", in this order from 0
abbrev pub kind_number : Kind → ℕ
kind_number End = 0
kind_number Skipped = 1
kind_number Done = 2
kind_number (Refused r) = 3

-- "a refusal number (0 if none)"
abbrev pub refusal_number : Kind → ℕ
refusal_number End = 0
refusal_number Skipped = 0
refusal_number Done = 0
refusal_number (Refused r) = number_of r

-- the kind, the next position, the next place and the bytes; the count is their length
pub record Response : Type 0 where
  pub kind : Kind
  pub next : ℕ
  pub place : ℕ
  pub bytes : List ℕ

-- the response, and the state after it
pub record Outcome (S : Type 0) : Type 0 where
  pub response : Response
  pub state : S

-- "DONE and all other answers hand back 0": the response of these parts, at place 0
abbrev pub response_of : Kind → ℕ → List ℕ → Response
response_of kind next bytes = record { kind = kind; next = next; place = 0; bytes = bytes }

-- every refusal from 5 on writes one error message
abbrev pub error_response : List ℕ → ℕ → Refusal → Response
error_response message next r = response_of (Refused r) next (error_message message (errno_of r) (detail_of r))

-- "an ACK if the ACK flag was set, else nothing"
unfoldable pub ack_bytes : List ℕ → MessageHeader → List ℕ
ack_bytes message h = cond (eqb (h.flags / 4 % 2) 1) (error_message message 0 Nothing) []

-- how long that is
unfoldable pub ack_length : MessageHeader → ℕ
ack_length h = cond (eqb (h.flags / 4 % 2) 1) 36 0

-- nothing is written
abbrev pub no_bytes : Kind → ℕ → Response
no_bytes kind next = response_of kind next []

-- the state is as before
abbrev pub unchanged : {S : Type 0} → Response → S → Outcome S
unchanged s state = record { response = s; state = state }

-- the code's answer
abbrev pub answer_of : Response → Answer
answer_of s = record { kind = s.kind; next = s.next; place = s.place; written = length s.bytes }

-- the bytes stand at the front of the page; "Page bytes beyond that count keep their content"
pub record Responds (s : Response) (before after : List ℕ) (r : Answer) : Type 0 where
  pub result : r ≡ answer_of s
  pub page : after ≡ put before s.bytes

-- the response is given, and the state after it is the outcome's
pub record Performs {S : Type 0} (o : Outcome S) (before after : List ℕ) (state : S) (r : Answer) : Type 0 where
  pub response : Responds o.response before after r
  pub state-is : state ≡ o.state
