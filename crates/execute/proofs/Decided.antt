-- An admitted request decided by value and then carried out is the request executed: level by level, and for a SET since the form has the bitset's effect.
use Prim.Native.Nat.{ℕ, ◌*◌, ◌<◌, ◌-◌, ◌≤◌}
use mathlib.Core.Path.{◌≡◌, refl, sym, ap, ap₂, ◌∙◌}
use mathlib.Core.List.{List}
use mathlib.Core.Bool.{Bool, true, false, cond}
use lib.ListN.{take, drop}
use Rattle.bits.specs.Set.{has, words_of}
use Rattle.bits.specs.Change.{Below}
use Rattle.bits.proofs.Words.{has-words_of, words_of-cong, take-words_of}
use Rattle.bits.proofs.Cut.{none_below}
use Rattle.entries.specs.Entry.{count}
use Rattle.netlink_attributes.specs.Attributes.{part_of}
use Rattle.netlink.specs.declared.walk.Slot.{Slot}
use Rattle.bitset_form.specs.Bitset.{Bitset, Reading, mask_of, value_of}
use Rattle.bitset_form.specs.Form.{form_of}
use Rattle.bitset_form.specs.Bitset.Reading.{refused, accepted}
use Rattle.bitset.specs.Judge.{bitset_reading}
use Rattle.normal.proofs.Effect.{form-keeps-effect}
use Rattle.normal.proofs.Fits.{accepted-fits}
use Rattle.layout.specs.Layout.{list_of, size_of, set_at}
use Rattle.layout.specs.declared.Set.{Set}
use Rattle.layout.proofs.Laws.{lists_of, widths-few, size_few}
use Rattle.boxes.specs.Box.{Box, State, ports_in, sizes_in, widths_in, place_in, width_in, set_of}
use Rattle.request.specs.Top.{top_of}
use Rattle.request.specs.Target.{target_of}
use Rattle.request.proofs.target.Place.{TargetIn, target-counted}
use Rattle.request.specs.declared.parts.TopParts.{TopParts}
use Rattle.decision.specs.Decision as D
use Rattle.decision.specs.Decision.{bitset_decision, header_decision, decided}
use Rattle.decision.specs.declared.Plan.{Plan}
use Rattle.request.specs.declared.target.Target.{Target}
use Rattle.decision.specs.declared.Plan.TheVariants as P
use Rattle.response.specs.Answer.{response_of, error_response, ack_bytes, unchanged, Responds, Performs}
use Rattle.response.specs.declared.Kind.TheVariants.{Done}
use Rattle.response.specs.declared.Answer.{Answer}
use Rattle.execute.specs.declared.Request.{Request}
use Rattle.execute.specs.Execute.{with_set, with_effect, get_bytes, reading_outcome, set_outcome, port_outcome, target_outcome, header_outcome, top_outcome, request_outcome}
use Rattle.admission.specs.Admission.{is_dump}
use Rattle.execute.specs.CarriedOut.{changed_by, plan_outcome, carried_out}
use Rattle.execute.specs.Fit.{Fit}
use Rattle.execute.proofs.Laws.{unchanged-performs}
use Rattle.basics.specs.Results.{and_then}
use Rattle.std.specs.Prelude.{Result, Ok, Err}
use Rattle.refusal.specs.declared.Refusal.{Refusal}
use Rattle.request.specs.declared.target.Addressee.{Addressee}
use Rattle.request.specs.declared.target.Addressee.TheVariants as A

module _ (box : Box) (state : State) (fit : Fit box state) where
  -- the form of an accepted bitset, applied to a set of a port, makes of it what the bitset says
  module _ (position : ℕ) (here : position < ports_in box) (set : Set) (s : List ℕ) (from : ℕ) where
    names : List ℕ
    names = list_of box.names set

    held : List ℕ
    held = set_of box state position set

    held-is : take (width_in box set) (drop (place_in box position set) state.words) ≡ held
    unfolding held set_of set_at width_in place_in
    held-is = refl

    below : Below (count names) (has held)
    unfolding held names
    below = rw (← lists_of count box.names set) (none_below held (size_of (sizes_in box) set) (fit.clear position here set))

    few : width_in box set ≤ 16
    unfolding width_in
    few = size_few 16 (widths_in box) set (widths-few (sizes_in box) (widths_in box) refl fit.few)

    bit-of : (f : ℕ → Bool) (i : ℕ) → i < width_in box set * 32 → has (take (width_in box set) (words_of 16 f)) i ≡ f i
    bit-of f i l = ap (λ (z : List ℕ). has z i) (take-words_of (width_in box set) 16 f few) ∙ has-words_of (width_in box set) f i l

    changed : (b : Bitset) → bitset_reading s from names ≡ accepted b
        → changed_by box state position set (form_of (count names) b) ≡ with_effect box state position set b
    unfolding changed_by with_effect held
    changed b e =
        let fits = accepted-fits s from names b e in
        ap (with_set box state position set)
        (words_of-cong (width_in box set) _ _
        (λ i l. ap₂ (λ (x y : Bool). cond x y (has (take (width_in box set) (drop (place_in box position set) state.words)) i)) (bit-of (mask_of (count names) b) i l) (bit-of (value_of b) i l)
        ∙ ap (λ (z : List ℕ). cond (mask_of (count names) b i) (value_of b i) (has z i)) held-is
        ∙ sym (form-keeps-effect (count names) b fits (has held) below i)))

  module _ (m : List ℕ) (request : Request) where
    abbrev names-here : List ℕ
    names-here = list_of box.names request.command.set

    -- the bitset
    bitset-is : (bitset : Slot) (position : ℕ) → position < ports_in box
        → carried_out box state m request (bitset_decision m bitset names-here position) ≡ set_outcome box state m request bitset position
    unfolding bitset_decision set_outcome names
    bitset-is bitset position here = go (bitset_reading (part_of m 0 bitset.end) bitset.start names-here) refl
      where
        go : (x : Reading) → bitset_reading (part_of m 0 bitset.end) bitset.start names-here ≡ x
            → carried_out box state m request (D.reading_decision x (count names-here) position (bitset.start - 4)) ≡ reading_outcome x box state m request position
        go (refused why) e = refl
        go (accepted b) e =
            ap (unchanged (response_of Done request.next (ack_bytes m request.header)))
            (changed position here request.command.set (part_of m 0 bitset.end) bitset.start b e)

    -- GET or SET
    port-is : (bitset : Slot) (target : Target) → target.position < ports_in box
        → carried_out box state m request (cond request.command.change (bitset_decision m bitset names-here target.position) (Ok (P.Get target))) ≡ port_outcome box state m request bitset target
    unfolding port_outcome
    port-is bitset target here = go request.command.change
      where
        go : (change : Bool)
            → carried_out box state m request (cond change (bitset_decision m bitset names-here target.position) (Ok (P.Get target)))
            ≡ cond change (set_outcome box state m request bitset target.position) (unchanged (response_of Done request.next (get_bytes box state m request target)) state)
        go true = bitset-is bitset target.position here
        go false = refl

    -- the header level
    target_is : (bitset : Slot) (a : Result Addressee Refusal) → TargetIn box.roll a
        → carried_out box state m request (D.target_decision a request.command.change (bitset_decision m bitset names-here)) ≡ target_outcome a box state m request (port_outcome box state m request bitset)
    target_is bitset (Err why) i = refl
    target_is bitset (Ok (A.Unnamed flags)) i = refl
    target_is bitset (Ok (A.Port target)) i = port-is bitset target i

    abbrev dump : Bool
    dump = is_dump request.header

    header_is : (parts : TopParts)
        → carried_out box state m request (header_decision box m request.command dump parts) ≡ header_outcome box state m request parts
    unfolding header_decision header_outcome
    header_is parts = target_is parts.bitset (target_of m parts.header dump box.roll) (target-counted box.roll m parts.header dump)

    -- the top level
    top-is : (t : Result TopParts Refusal) → carried_out box state m request (and_then t (header_decision box m request.command dump)) ≡ top_outcome t state m request (header_outcome box state m request)
    top-is (Err why) = refl
    top-is (Ok parts) = header_is parts

    pub carried-is : carried_out box state m request (decided box m request.command dump) ≡ request_outcome box state m request
    unfolding decided request_outcome
    carried-is = top-is (top_of m request.command.change)

-- the returns of `execute`
module _ (box : Box) (state : State) (m : List ℕ) (request : Request) (b : Bool) (d : Result Plan Refusal) (P Q : List ℕ) (r : Answer) (fit : Fit box state)
    (eb : b ≡ is_dump request.header) (e : d ≡ decided box m request.command b) where
  decided-outcome : carried_out box state m request d ≡ request_outcome box state m request
  decided-outcome = ap (carried_out box state m request) (e ∙ ap (decided box m request.command) eb) ∙ carried-is box state fit m request

  pub execute-refused : (why : Refusal) → d ≡ Err why → Responds (error_response m request.next why) P Q r → Performs (request_outcome box state m request) P Q state r
  execute-refused why q s = rw (sym decided-outcome ∙ ap (carried_out box state m request) q) (unchanged-performs (error_response m request.next why) P Q state r s)

  pub execute-performs : (plan : Plan) (new : State) → d ≡ Ok plan → Performs (plan_outcome plan box state m request) P Q new r → Performs (request_outcome box state m request) P Q new r
  execute-performs plan new q performed = rw (sym decided-outcome ∙ ap (carried_out box state m request) q) performed
