-- Document 01, "What the box reads and writes": the program's answers to one datagram; and request C-11: it goes through all places of a dump.
use Rattle.std.specs.Prelude.{ℕ, zero, suc, ◌<◌, ◌≡◌, List, [], ◌∷◌, Bool, true, false, length, get_or, ltb}
use Rattle.refusal.specs.Refusal.{number_of}
use Rattle.response.specs.Answer.{Outcome}
use Rattle.boxes.specs.Box.{State}
use Rattle.boxes.specs.declared.Call.{Call}
use Rattle.handler.specs.Call.{outcome}
use Rattle.response.specs.declared.Kind.{Kind}
use Rattle.response.specs.declared.Kind.TheVariants.{End, Skipped, Done, Refused}
use Rattle.answer.specs.Box.{program_box, first_state}

-- the numbers of the program's calls: family 25, as admin
abbrev pub call_at : ℕ → ℕ → Call
call_at at place = record { family = 25; admin = 1; position = at; place = place }

-- one call for the program's box, in this state, at this position of the datagram and this place
unfoldable pub call : List ℕ → State → ℕ → ℕ → Outcome State
call datagram state at place = outcome program_box state (call_at at place) datagram 32768

-- "up to the end or a refusal 1 to 4"
abbrev pub goes_on : Kind → Bool
goes_on End = false
goes_on Skipped = true
goes_on Done = true
goes_on (Refused r) = ltb 4 (number_of r)

-- the answer's bytes, then the answers with the state and from the position and the place that it leaves; none where the program stops
abbrev pub onward : Bool → Outcome State → (State → ℕ → ℕ → List (List ℕ)) → List (List ℕ)
onward true o rest = o.response.bytes ∷ rest o.state o.response.next o.response.place
onward false o rest = []

-- what a call adds to the answers that follow it
abbrev pub on_call : Outcome State → (State → ℕ → ℕ → List (List ℕ)) → List (List ℕ)
on_call o rest = onward (goes_on o.response.kind) o rest

-- the answers of at most so many calls
unfoldable pub answers_up_to : ℕ → List ℕ → State → ℕ → ℕ → List (List ℕ)
answers_up_to zero datagram state at place = []
answers_up_to (suc n) datagram state at place = on_call (call datagram state at place) (answers_up_to n datagram)

-- the answers from a position and a place on; a message has at least 16 bytes and, with one port, at most two answers: no more answers than bytes (law `answers-step`)
unfoldable pub answers_from : List ℕ → State → ℕ → ℕ → List (List ℕ)
unfolding answers_up_to
answers_from datagram state at place = answers_up_to (suc (length datagram)) datagram state at place

-- "writes the answers in order": what the program writes for a datagram, answer by answer
unfoldable pub answers : List ℕ → List (List ℕ)
answers datagram = answers_from datagram first_state 0 0

-- the bytes are the answer after the first k
pub record IsNext (datagram : List ℕ) (k : ℕ) (bytes : List ℕ) : Type 0 where
  pub more : k < length (answers datagram)
  pub here : bytes ≡ get_or (answers datagram) k []
