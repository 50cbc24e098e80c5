-- A run over a datagram: calls one after the other, each from the next position and place and with the state of the one before. Document 01, "What the box
-- reads and writes": "in order, up to the end or a refusal 1 to 4"; request C-11: "One call, given a place .., writes one message and hands back the next place".
use Rattle.std.specs.Prelude.{ℕ, zero, suc, ◌+◌, ◌≤◌, ◌<◌, ◌≡◌, Bool, false, ◌||◌}
use Rattle.boxes.specs.declared.Call.{Call}
use Rattle.response.specs.Answer.{Response, Outcome}
use Rattle.handler.specs.Call.{ends_run}

-- the same call from the position and the place that an answer hands back
abbrev pub after : Call → Response → Call
after call r = record { family = call.family; admin = call.admin; position = r.next; place = r.place }

-- where a call goes on in a datagram of so many bytes: further on, by at least a header, at place 0; or at the same position, at the next place, of which there
-- are no more than the 64 ports and DONE
pub data MovesOn (size : ℕ) (call : Call) (r : Response) : Type 0 where
  further : call.position + 16 ≤ r.next → r.next ≤ size → r.place ≡ 0 → MovesOn size call r
  again : r.next ≡ call.position → call.position + 16 ≤ size → r.place ≡ call.place + 1 → call.place < 64 → MovesOn size call r

-- a run of at most so many calls, by what one call does, comes to the end or to a refusal by 1 to 4
unfoldable pub ends_within : {S : Type 0} → (S → Call → Outcome S) → ℕ → S → Call → Bool
ends_within one zero state call = false
ends_within one (suc calls) state call =
    ends_run (one state call).response.kind
    || ends_within one calls (one state call).state (after call (one state call).response)
