-- Demands 2 and 3 speak of one bitset.
--     set-alike        a SET that comes to its bitset: done where the normaliser, given the payload alone, answers 0 and writes the normal form of
--                      the bitset that is carried out; refused by the number by which the normaliser refuses
use Prim.Native.Nat.{ℕ, ◌+◌, ◌≤◌, ◌<◌}
use mathlib.Core.Path.{◌≡◌, refl, sym, ap, ◌∙◌}
use mathlib.Core.List.{List}
use mathlib.Core.Bool.{Bool, true, false, ◌&&◌, not, cond}
use mathlib.Core.Logic.{⊎_elim}
use lib.ListN.{length, length-take, length-drop}
use lib.Dec.{eqb, ltb}
use native.Mathlib.Omega.{arith}
use borrow.Author.Tests.{lt-ltb, ltb-false}
use Rattle.basics.specs.Numbers.{byte_at, u32_at}
use Rattle.basics.proofs.Order.{lt-or-ge}
use Rattle.basics.proofs.Truth.{clash}
use Rattle.names.specs.Rule.{names_right}
use Rattle.netlink_attributes.specs.Attributes.{part_of}
use Rattle.netlink_attributes.proofs.Laws.{part_in, part-past, part-back}
use Rattle.netlink_headers.specs.Headers.{message_header}
use Rattle.netlink_headers.specs.declared.headers.MessageHeader.{MessageHeader}
use Rattle.netlink.specs.Walk.{walked}
use Rattle.netlink.specs.declared.walk.Stop.{Stop}
use Rattle.netlink.specs.declared.walk.Stop.TheVariants.{Whole, At}
use Rattle.netlink.specs.declared.walk.Walked.{Walked}
use Rattle.refusal.specs.Refusal.{number_of, on_stop}
use Rattle.refusal.specs.declared.Refusal.TheVariants as R
use Rattle.bitset_form.specs.Bitset.{Reading}
use Rattle.bitset_form.specs.Bitset.Reading.{refused, accepted}
use Rattle.bitset.specs.Judge.{bitset_reading}
use Rattle.bitset_moved.proofs.Walk.{slot-inside}
use Rattle.bitset_moved.proofs.Both.{both-accept, both-refuse}
use Rattle.boxes.specs.Box.{Box, State}
use Rattle.boxes.specs.declared.Call.{Call}
use Rattle.boxes.specs.Rule.{box_right}
use Rattle.boxes.proofs.rule.Meaning.{box-means}
use Rattle.admission.specs.Admission.{is_dump, no_dump, admitted}
use Rattle.request.specs.Policies.{top_policy}
use Rattle.request.specs.Parts.{top_parts}
use Rattle.request.specs.Top.{nests_of, top_of}
use Rattle.request.specs.declared.parts.TopParts.{TopParts}
use Rattle.request.specs.Target.{target_of}
use Rattle.response.specs.Answer.{Outcome, response_of, unchanged}
use Rattle.response.specs.declared.Kind.TheVariants.{Done}
use Rattle.execute.specs.declared.Request.{Request}
use Rattle.execute.specs.Execute.{request_of, get_bytes, reading_outcome, set_outcome, port_outcome, target_outcome, header_outcome, top_outcome, request_outcome}
use Rattle.handler.specs.Call.{refused_in_place, on_admission, message_outcome, position_outcome, outcome, ends_run}
use Rattle.demands.specs.Call.{message_of, next_of}
use Rattle.demands.specs.CallCase.{CallCase}
use Rattle.demands.specs.CallCase.CallCase.{ended, not_read, message_answered}
use Rattle.demands.specs.Message.{Named}
use Rattle.demands.specs.Normaliser.{names_for, AnsweredAlike}
use Rattle.demands.specs.Normaliser.AnsweredAlike.{both-done, both-refused}
use Rattle.demands.proofs.Bitset.{kind_of}
use Rattle.demands.proofs.Request.{kind, message-first, listed-dump}
use Rattle.demands.proofs.Message.{go-listed}
use Rattle.demands.proofs.CallCase.{call-case}
use Rattle.std.specs.Prelude.{Result, Ok, Err}
use Rattle.refusal.specs.declared.Refusal.{Refusal}
use Rattle.request.specs.declared.target.Addressee.{Addressee}
use Rattle.admission.specs.declared.Admission.{Admission}
use Rattle.admission.specs.declared.Admission.TheVariants as A

-- a part is no longer than the whole
pub part-short : (s : List ℕ) (a e : ℕ) → length (part_of s a e) ≤ length s
part-short s a e =
    ⊎_elim
    (λ (h : e < a). rw (← part-back s a e h) (omega arith))
    (λ (h : a ≤ e). ⊎_elim
    (λ (g : length s < e). rw (← part-past s a e h g) (omega arith))
    (λ (g : e ≤ length s). rw (← part_in s a e h g) (simp (length-take, length-drop) (omega arith)))
    (lt-or-ge (length s) e))
    (lt-or-ge e a)

-- the bitset that is named stands inside the message
module _ (roll m : List ℕ) (n : Named roll m) where
  abbrev top : Walked
  top = walked (top_policy n.command.change) m 20

  pub bitset-inside : (n.parts.bitset.start ≤ n.parts.bitset.end) × (n.parts.bitset.end ≤ length m)
  unfolding top_of nests_of top_parts
  bitset-inside = go top.stop refl n.nests
    where
      is-it : (a b : Bool) (parts : TopParts) → cond a (Err (R.MissingTop 1)) (cond b (Err (R.MissingTop 2)) (Ok parts)) ≡ Ok n.parts
          → parts ≡ n.parts
      is-it true b parts e = absurd (let z : ◌≡◌ {A = ℕ} 0 1 = cc in omega arith)
      is-it false true parts e = absurd (let z : ◌≡◌ {A = ℕ} 0 1 = cc in omega arith)
      is-it false false parts e = cc

      go : (t : Stop) → top.stop ≡ t → on_stop t Err (nests_of n.command.change (top_parts top.slots)) ≡ Ok n.parts
          → (n.parts.bitset.start ≤ n.parts.bitset.end) × (n.parts.bitset.end ≤ length m)
      go (At fault at) w e = absurd (let z : ◌≡◌ {A = ℕ} 0 1 = cc in omega arith)
      go Whole w e =
          let parts = top_parts top.slots in
          let same = is-it (not parts.header.present) (n.command.change && not parts.bitset.present) parts e in
          rw (ap (λ (x : TopParts). x.bitset) same) at (slot-inside m (top_policy n.command.change) 20 w 2 (omega arith))

module _ (box : Box) (state : State) (call : Call) (datagram : List ℕ) (room : ℕ) where
  abbrev position : ℕ
  position = call.position

  abbrev o : Outcome State
  o = outcome box state call datagram room

  abbrev m : List ℕ
  m = message_of datagram position

  abbrev h : MessageHeader
  h = message_header datagram position

  -- neither the end nor 1 to 4
  module _ (going : ends_run o.response.kind ≡ false) where
    within : length datagram ≤ 32768
    unfolding outcome
    within = go (not (box_right box state call)) (ltb room 32768) (ltb 32768 (length datagram)) refl going
      where
        go : (a b c : Bool) → ltb 32768 (length datagram) ≡ c
            → ends_run
            (cond a (refused_in_place R.Box call state)
            (cond b (refused_in_place R.Page call state)
            (cond c (refused_in_place R.Datagram call state) (position_outcome box state call datagram)))).response.kind
            ≡ false
            → length datagram ≤ 32768
        go true b c e q = absurd (clash refl q)
        go false true c e q = absurd (clash refl q)
        go false false true e q = absurd (clash refl q)
        go false false false e q = ltb-false 32768 (length datagram) e

    payload-short : (a e : ℕ) → length (part_of m a e) ≤ 32768
    unfolding message_of
    payload-short a e =
        let w = within in
        omega (arith, part-short m a e, part-short datagram position (position + u32_at datagram position))

    right : box_right box state call ≡ true
    right = by (call-case box state call datagram room)
      where
        by : CallCase box state call datagram o → box_right box state call ≡ true
        by (ended e) = absurd (clash (ap (λ (x : Outcome State). ends_run x.response.kind) e) going)
        by (not_read w l e) = absurd (clash (ap (λ (x : Outcome State). ends_run x.response.kind) e ∙ lt-ltb (number_of w) 5 (omega arith)) going)
        by (message_answered right lo hi long first c) = right

    module _ (n : Named box.roll m) where
      abbrev reading : Reading
      reading = bitset_reading (part_of m 0 n.parts.bitset.end) n.parts.bitset.start (names_for box m n)

      -- a SET that is admitted, names a port and so comes to its bitset
      module _ (change : n.command.change ≡ true) (admit : admitted m h call.family (eqb call.admin 1) ≡ Ok (A.Admitted n.command)) where
        -- it asks for no dump
        one : is_dump h ≡ false
        unfolding no_dump
        one =
            let may = (go-listed m h call.family (eqb call.admin 1) n.command admit).1 in
            let set = listed-dump (byte_at m 16) n.command n.listed ∙ change in
            by (is_dump h) (not n.command.dump) set may
          where
            by : (a b : Bool) → b ≡ true → a && b ≡ false → a ≡ false
            by true b q e = absurd (clash q e)
            by false b q e = refl

        set-kind : (next : ℕ) → kind (message_outcome box state call m h next) ≡ kind_of reading
        unfolding message_outcome request_outcome header_outcome port_outcome set_outcome
        set-kind next =
            ap (λ (a : Result Admission Refusal). kind (on_admission a box state call m h next)) admit
            ∙ ap (λ (t : Result TopParts Refusal). kind (top_outcome t state m request (header_outcome box state m request))) n.nests
            ∙ ap (λ (d : Bool). kind (target_outcome (target_of m n.parts.header d box.roll) box state m request (port_outcome box state m request n.parts.bitset))) one
            ∙ ap (λ (a : Result Addressee Refusal). kind (target_outcome a box state m request (port_outcome box state m request n.parts.bitset))) n.found
            ∙ ap (λ (t : Bool). kind (cond t (set_outcome box state m request n.parts.bitset n.target.position) got)) change
            ∙ read-kind reading
          where
            request : Request
            request = request_of call h next n.command

            got : Outcome State
            got = unchanged (response_of Done next (get_bytes box state m request n.target)) state

            read-kind : (r : Reading) → kind (reading_outcome r box state m request n.target.position) ≡ kind_of r
            read-kind (refused why) = refl
            read-kind (accepted b) = refl

        kind-is : o.response.kind ≡ kind_of reading
        kind-is = by (call-case box state call datagram room)
          where
            by : CallCase box state call datagram o → o.response.kind ≡ kind_of reading
            by (ended e) = absurd (clash (ap (λ (x : Outcome State). ends_run x.response.kind) e) going)
            by (not_read w l e) = absurd (clash (ap (λ (x : Outcome State). ends_run x.response.kind) e ∙ lt-ltb (number_of w) 5 (omega arith)) going)
            by (message_answered right lo hi long first c) =
                let next = next_of datagram position in first ∙ sym (message-first box state call m h next) ∙ set-kind next

        pub set-alike : (page : ℕ) → 144 ≤ page → AnsweredAlike box m n page o.response.kind
        set-alike page wide = go reading refl
          where
            names : names_right (names_for box m n) ≡ true
            names = (box-means box state call right).names-right n.command.set

            at : (n.parts.bitset.start ≤ n.parts.bitset.end) × (n.parts.bitset.end ≤ length m)
            at = bitset-inside box.roll m n

            short : length (part_of m n.parts.bitset.start n.parts.bitset.end) ≤ 32768
            short = payload-short n.parts.bitset.start n.parts.bitset.end

            go : (r : Reading) → reading ≡ r → AnsweredAlike box m n page o.response.kind
            go (accepted b) e =
                both-done b (kind-is ∙ ap kind_of e) e
                (both-accept m (names_for box m n) n.parts.bitset.start n.parts.bitset.end at.0 at.1 names page wide short b e)
            go (refused why) e =
                both-refused why (kind-is ∙ ap kind_of e)
                (both-refuse m (names_for box m n) n.parts.bitset.start n.parts.bitset.end at.0 at.1 names page wide short why e)
