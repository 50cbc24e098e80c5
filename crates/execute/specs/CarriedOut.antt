-- No promise rests on this file: how a decision is carried out by its form; what a request comes to is said by the bitset's effect.
use Rattle.std.specs.Prelude.{ℕ, List, take, drop, Result, Ok, Err}
use Rattle.bits.specs.Set.{has, words_of}
use Rattle.bits.specs.Change.{merge}
use Rattle.layout.specs.declared.Set.{Set}
use Rattle.boxes.specs.Box.{Box, State, place_in, width_in}
use Rattle.bitset_form.specs.declared.Form.{Form}
use Rattle.decision.specs.declared.Plan.{Plan}
use Rattle.decision.specs.declared.Plan.TheVariants as P
use Rattle.refusal.specs.declared.Refusal.{Refusal}
use Rattle.response.specs.Answer.{Outcome, response_of, error_response, ack_bytes, unchanged}
use Rattle.response.specs.declared.Kind.TheVariants.{Done}
use Rattle.execute.specs.declared.Request.{Request}
use Rattle.execute.specs.Execute.{with_set, get_bytes, dump_response}

-- a form applied to a set of the port at a position, word by word
unfoldable pub changed_by : Box → State → ℕ → Set → Form → State
changed_by box state position set form =
    with_set box state position set
    (words_of (width_in box set)
    (merge (has (take (width_in box set) form.mask)) (has (take (width_in box set) form.value))
    (has (take (width_in box set) (drop (place_in box position set) state.words)))))

-- what a plan comes to: a GET or a dump is answered; a SET changes the set by its form and is acknowledged
abbrev pub plan_outcome : Plan → Box → State → List ℕ → Request → Outcome State
plan_outcome (P.Get target) box state m request = unchanged (response_of Done request.next (get_bytes box state m request target)) state
plan_outcome (P.Dump flags) box state m request = unchanged (dump_response box state request flags) state
plan_outcome (P.Set position nest form) box state m request =
    record { response = response_of Done request.next (ack_bytes m request.header); state = changed_by box state position request.command.set form }

-- so of a decision: a refusal from 5 on writes one error message
abbrev pub carried_out : Box → State → List ℕ → Request → Result Plan Refusal → Outcome State
carried_out box state m request (Err why) = unchanged (error_response m request.next why) state
carried_out box state m request (Ok plan) = plan_outcome plan box state m request
