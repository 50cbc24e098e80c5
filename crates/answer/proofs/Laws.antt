-- Laws of the program's run: the answers step by step, and one law for each need of the loop.
use Prim.Native.Nat.{ℕ, zero, suc, ◌+◌, ◌-◌, ◌≤◌, ◌<◌}
use mathlib.Core.Path.{◌≡◌, refl, sym, ap, ◌∙◌}
use mathlib.Core.List.{List, [], ◌∷◌, ◌++◌, append_assoc}
use mathlib.Core.Bool.{Bool, true, false, not}
use lib.ListN.{length, take, drop, get_or, length-append, length-drop}
use lib.Seq.{get_or_at, length-take-le}
use lib.Dec.{ltb}
use native.Mathlib.Omega.{arith}
use borrow.Author.Tests.{not-true, not-false}
use Rattle.basics.specs.Put.{put}
use Rattle.basics.proofs.Put.{take_put}
use Rattle.refusal.specs.Refusal.{number_of}
use Rattle.refusal.specs.declared.Refusal.{Refusal}
use Rattle.boxes.specs.Box.{Box, State}
use Rattle.response.specs.Answer.{Outcome, Performs}
use Rattle.handler.specs.Call.{outcome}
use Rattle.response.specs.declared.Kind.{Kind}
use Rattle.response.specs.declared.Kind.TheVariants.{Refused}
use Rattle.response.specs.declared.Answer.{Answer}
use Rattle.answer.specs.Box.{program_box, first_state}
use Rattle.answer.specs.Run.{call_at, call, goes_on, onward, on_call, answers_up_to, answers_from, answers, IsNext}
use Rattle.answer.proofs.Moves.{Further, Moves, call-moves}

pub goes-refused : (kind : Kind) (r : Refusal) (n : ℕ) → kind ≡ Refused r → n ≡ number_of r → ltb 4 n ≡ goes_on kind
goes-refused kind r n e q = rw (e, q)

-- as far as what follows agrees
on_same : (d : List ℕ) (at place : ℕ) (o : Outcome State) (f g : State → ℕ → ℕ → List (List ℕ)) → Moves d at place o
    → ((state : State) (k q : ℕ) → at + place < k + q → k + q ≤ length d → f state k q ≡ g state k q) → on_call o f ≡ on_call o g
on_same d at place o f g m p = by (goes_on o.response.kind) m
  where
    by : (b : Bool) → (b ≡ true → Further d at place o.response) → onward b o f ≡ onward b o g
    by true m = ap (λ (l : List (List ℕ)). o.response.bytes ∷ l) (p o.state o.response.next o.response.place (m refl).0 (m refl).1)
    by false m = refl

-- a larger bound on the count changes nothing
enough : (m n : ℕ) (d : List ℕ) (state : State) (at place : ℕ) → length d ≤ m + (at + place) → length d ≤ n + (at + place)
    → answers_up_to (suc m) d state at place ≡ answers_up_to (suc n) d state at place
unfolding answers_up_to
enough zero n d state at place h g = on_same d at place (call d state at place) _ _ (call-moves d state at place) (λ w k q l u. absurd (omega arith))
enough (suc m) zero d state at place h g = on_same d at place (call d state at place) _ _ (call-moves d state at place) (λ w k q l u. absurd (omega arith))
enough (suc m) (suc n) d state at place h g =
    on_same d at place (call d state at place) _ _ (call-moves d state at place) (λ w k q l u. enough m n d w k q (omega arith) (omega arith))

-- the answers from a position and a place on: that of the call there, and then those from the next position and place on
pub answers-step : (d : List ℕ) (state : State) (at place : ℕ) → answers_from d state at place ≡ on_call (call d state at place) (answers_from d)
unfolding answers_from answers_up_to
answers-step d state at place =
    on_same d at place (call d state at place) _ _ (call-moves d state at place) (λ w k q l u. rest (length d) w k q refl l u)
  where
    rest : (m : ℕ) (w : State) (k q : ℕ) → length d ≡ m → at + place < k + q → k + q ≤ length d → answers_up_to m d w k q ≡ answers_up_to (suc (length d)) d w k q
    rest zero w k q e l u = absurd (omega arith)
    rest (suc m) w k q e l u = enough m (length d) d w k q (omega arith) (omega arith)

-- no more answers than calls
few : (n : ℕ) (d : List ℕ) (state : State) (at place : ℕ) → length (answers_up_to n d state at place) ≤ n
unfolding answers_up_to
few zero d state at place = omega arith
few (suc n) d state at place = by (call d state at place) (few n d)
  where
    by : (o : Outcome State) → ((w : State) (k q : ℕ) → length (answers_up_to n d w k q) ≤ n) → length (on_call o (answers_up_to n d)) ≤ suc n
    by o h = on (goes_on o.response.kind)
      where
        on : (b : Bool) → length (onward b o (answers_up_to n d)) ≤ suc n
        on true = omega (arith, h o.state o.response.next o.response.place)
        on false = omega arith

pub next_small : (d : List ℕ) (k : ℕ) (bytes : List ℕ) → IsNext d k bytes → k ≤ length d
unfolding answers answers_from
next_small d k bytes h = let f = few (suc (length d)) d first_state 0 0 in omega (arith, h.more)

-- the first k answers are written, and what is left is what the run says from here on
pub record SoFar (d : List ℕ) (state : State) (at place k : ℕ) : Type 0 where
  pub before : List (List ℕ)
  pub count : length before ≡ k
  pub whole : answers d ≡ before ++ answers_from d state at place

pub none_yet : (d : List ℕ) (state : State) (k : ℕ) → state ≡ first_state → k ≡ 0 → SoFar d state 0 0 k
unfolding answers
none_yet d state k e q = rw (e, q) (record { before = []; count = refl; whole = refl })

-- what the library's call says of the program's box
pub called : (box : Box) (state : State) (d : List ℕ) (at place : ℕ) (P Q : List ℕ) (new : State) (r : Answer) → box ≡ program_box → length P ≡ 32768
    → Performs (outcome box state (call_at at place) d (length P)) P Q new r → Performs (call d state at place) P Q new r
unfolding call
called box state d at place P Q new r b ep h = rw (b, ep) at h

-- what was written is in the page
pub written-fits : (o : Outcome State) (P Q : List ℕ) (new : State) (r : Answer) → Performs o P Q new r → length Q ≡ length P → r.written ≤ length Q
unfolding put
written-fits o P Q new r h e =
    let n : r.written ≡ length o.response.bytes = ap (λ (x : Answer). x.written) h.response.result in
    let l = ap length h.response.page ∙ length-append o.response.bytes (drop (length o.response.bytes) P) in
    omega (arith, length-drop (length o.response.bytes) P)

pub written-part : (o : Outcome State) (P Q : List ℕ) (new : State) (r : Answer) → Performs o P Q new r → length Q ≡ length P → r.written ≡ length (take r.written Q)
written-part o P Q new r h e = sym (length-take-le r.written Q (written-fits o P Q new r h e))

module _ (d : List ℕ) (state : State) (at place k : ℕ) (s : SoFar d state at place k) (P Q : List ℕ) (new : State) (r : Answer) (performed : Performs (call d state at place) P Q new r) (b : Bool) (eb : b ≡ goes_on r.kind) where
  go : b ≡ goes_on (call d state at place).response.kind
  go = eb ∙ ap (λ (x : Answer). goes_on x.kind) performed.response.result

  next-is : r.next ≡ (call d state at place).response.next
  next-is = ap (λ (x : Answer). x.next) performed.response.result

  place_is : r.place ≡ (call d state at place).response.place
  place_is = ap (λ (x : Answer). x.place) performed.response.result

  from-here : answers_from d state at place ≡ onward b (call d state at place) (answers_from d)
  from-here = answers-step d state at place ∙ ap (λ (x : Bool). onward x (call d state at place) (answers_from d)) (sym go)

  pub run-stops : not b ≡ true → k ≡ length (answers d)
  run-stops z =
      let none : answers_from d state at place ≡ [] = from-here ∙ ap (λ (x : Bool). onward x (call d state at place) (answers_from d)) (not-true b z) in
      sym (ap length (s.whole ∙ ap (λ (l : List (List ℕ)). s.before ++ l) none) ∙ length-append s.before [] ∙ omega (arith, s.count))

  module _ (z : not b ≡ false) where
    rest : List (List ℕ)
    rest = answers_from d (call d state at place).state (call d state at place).response.next (call d state at place).response.place

    here : answers d ≡ s.before ++ ((call d state at place).response.bytes ∷ rest)
    unfolding rest
    here = s.whole ∙ ap (λ (l : List (List ℕ)). s.before ++ l) (from-here ∙ ap (λ (x : Bool). onward x (call d state at place) (answers_from d)) (not-false b z))

    pub run-less : length d - (r.next + r.place) < length d - (at + place)
    run-less = let m = call-moves d state at place (sym go ∙ not-false b z) in omega (arith, next-is, place_is)

    pub run-next : IsNext d k (take r.written Q)
    run-next =
        let l = ap length here ∙ length-append s.before ((call d state at place).response.bytes ∷ rest) in
        record {
          more = omega (arith, s.count);
          here =
              ap (take r.written) performed.response.page ∙ take_put P (call d state at place).response.bytes r.written (sym (ap (λ (x : Answer). x.written) performed.response.result))
              ∙ sym (ap (λ (l : List (List ℕ)). get_or l k []) here ∙ get_or_at s.before (call d state at place).response.bytes rest [] k s.count);
        }

    pub run-again : (n : ℕ) → n ≡ k + 1 → SoFar d new r.next r.place n
    unfolding rest
    run-again n e =
        record {
          before = s.before ++ ((call d state at place).response.bytes ∷ []);
          count = length-append s.before ((call d state at place).response.bytes ∷ []) ∙ omega (arith, s.count, e);
          whole =
              here ∙ sym (append_assoc s.before ((call d state at place).response.bytes ∷ []) rest)
              ∙ rw (performed.state-is, next-is, place_is) refl;
        }

pub ruleset run-laws = (none_yet, written-fits, written-part, run-stops, run-less, run-next, run-again)
