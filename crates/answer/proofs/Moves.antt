-- Where the program goes on, position and place together rise, within the datagram: demand 1's law of every call, for a box with one port.
use Prim.Native.Nat.{ℕ, ◌+◌, ◌≤◌, ◌<◌}
use mathlib.Core.Path.{◌≡◌, refl}
use mathlib.Core.List.{List}
use mathlib.Core.Bool.{true, false}
use lib.ListN.{length}
use native.Mathlib.Omega.{arith}
use borrow.Author.Tests.{ltb-true, le-ltb}
use Rattle.basics.proofs.Truth.{clash}
use Rattle.refusal.specs.Refusal.{number_of}
use Rattle.boxes.specs.Box.{State, ports_in}
use Rattle.boxes.proofs.rule.Meaning.{box-means}
use Rattle.response.specs.Answer.{Response, Outcome}
use Rattle.response.specs.declared.Kind.{Kind}
use Rattle.response.specs.declared.Kind.TheVariants.{End, Skipped, Done, Refused}
use Rattle.handler.specs.Call.{ends_run}
use Rattle.handler.proofs.call.Moves.{Onward, behind, again, moves}
use Rattle.answer.specs.Box.{program_box}
use Rattle.answer.specs.Run.{call_at, call, goes_on}
use Rattle.answer.proofs.Right.{one-port}

goes-not-over : (kind : Kind) → goes_on kind ≡ true → ends_run kind ≡ false
goes-not-over End e = absurd (clash e refl)
goes-not-over Skipped e = refl
goes-not-over Done e = refl
goes-not-over (Refused why) e = le-ltb (number_of why) 5 (let l = ltb-true 4 (number_of why) e in omega arith)

-- further on than a position and a place, and not past the datagram's end
abbrev pub Further : List ℕ → ℕ → ℕ → Response → Type 0
Further d at place r = (at + place < r.next + r.place) × (r.next + r.place ≤ length d)

-- so a call goes on that does not stop the program
abbrev pub Moves : List ℕ → ℕ → ℕ → Outcome State → Type 0
Moves d at place o = goes_on o.response.kind ≡ true → Further d at place o.response

-- behind a message of 16 bytes or more, or at place 1 of the message
further : (d : List ℕ) (at place next ports : ℕ) (r : Response) → ports ≡ 1 → place ≤ ports → at + 16 ≤ next → next ≤ length d → Onward ports at place next r → Further d at place r
further d at place next ports r one p f i (behind en ep) = (omega arith, omega arith)
further d at place next ports r one p f i (again en ep l) = (omega arith, omega arith)

pub call-moves : (d : List ℕ) (state : State) (at place : ℕ) → Moves d at place (call d state at place)
unfolding call
call-moves d state at place e =
    let m = moves program_box state (call_at at place) d 32768 (goes-not-over (call d state at place).response.kind e) in
    further d at place _ (ports_in program_box) _ one-port (box-means program_box state (call_at at place) m.right).place-counted m.further m.inside m.onward
