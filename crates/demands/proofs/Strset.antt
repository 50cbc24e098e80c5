-- Request C-13: what the answer to a STRSET_GET tells is its first check that does not pass.
use Prim.Native.Nat.{ℕ, ◌-◌}
use mathlib.Core.Path.{◌≡◌, refl, sym, ap, ◌∙◌}
use mathlib.Core.List.{List, [], ◌∷◌}
use mathlib.Core.Bool.{Bool, true, false, ◌&&◌, ◌||◌, not, cond}
use lib.ListN.{length, get_or}
use lib.Dec.{eqb, ltb}
use Rattle.netlink_attributes.specs.Attributes.{Attributes, attributes, part_of}
use Rattle.netlink_attributes.specs.Attributes.Attributes.{done, broken, attribute}
use Rattle.netlink.specs.Walk.{absent, walked, slot_number}
use Rattle.netlink.specs.declared.walk.Slot.{Slot}
use Rattle.netlink_headers.specs.declared.headers.MessageHeader.{MessageHeader}
use Rattle.refusal.specs.Refusal.{on_stop}
use Rattle.refusal.specs.declared.Refusal.TheVariants as R
use Rattle.layout.specs.declared.Set.TheVariants.{Debug, Flags}
use Rattle.boxes.specs.Box.{Box}
use Rattle.request.specs.Policies.{header_policy}
use Rattle.request.specs.Parts.{header_parts}
use Rattle.request.specs.Header.{flags_judged}
use Rattle.roll.specs.Find.{found_by_index, found_by_name}
use Rattle.request.specs.Port.{port_by_index, port_by_name, port_of}
use Rattle.request.specs.Target.{with_flags}
use Rattle.request.specs.Optional.{gives_port, optional_header_of, optional_target_of}
use Rattle.request.specs.declared.parts.HeaderParts.{HeaderParts}
use Rattle.strset_request.specs.Policies.{strset_policy, string_sets_policy, string_set_policy}
use Rattle.strset_request.specs.Top.{strset_parts, with_header, strset_top_of}
use Rattle.strset_request.specs.Set.{id_of, set_of_id, id_judged, set_reading}
use Rattle.strset_request.specs.List.{with_asked, sets_reading, nest_reading, list_reading}
use Rattle.strset_request.specs.Asked.{with_sets, on_target, sets_asked, asked_of}
use Rattle.strset_request.specs.declared.top.StrsetParts.{StrsetParts}
use Rattle.strset_request.specs.declared.list.Sets.{Sets}
use Rattle.strset_request.specs.declared.list.Sets.TheVariants.{Nothing}
use Rattle.response.specs.Answer.{response_of, error_response}
use Rattle.response.specs.declared.Kind.{Kind}
use Rattle.response.specs.declared.Kind.TheVariants.{Done, Refused}
use Rattle.strset.specs.Strset.{strset_content_in, strset_bytes, content_response, asked_response, strset_response}
use Rattle.demands.specs.Check.{refuse_if, walks, walk_checks, first_kind}
use Rattle.demands.specs.PortChecks.{no_port, named_otherwise, named_port_checks}
use Rattle.demands.specs.Strset.{not_offered, id_checks, each_set, sets_checks, too_long, strset_port_checks, strset_level_checks, strset_checks}
use Rattle.demands.proofs.First.{step, walk_step, pass, fault, no_more, first-append}
use Rattle.demands.proofs.PortRows.{target_first}
use Rattle.std.specs.Prelude.{Option, Some, None, Result, Ok, Err, is_some}
use Rattle.refusal.specs.declared.Refusal.{Refusal}
use Rattle.layout.specs.declared.Set.{Set}
use Rattle.strset_request.specs.declared.asked.Asked.{Asked}
use Rattle.request.specs.declared.header.Header.{Header}
use Rattle.request.specs.declared.target.Addressee.TheVariants as T
use Rattle.basics.specs.Results.{and_then}

-- the kind of one STRINGSET's reading, given that of its set
module _ (last : Kind) where
  abbrev set_kind : Result Set Refusal → Kind
  set_kind (Err why) = Refused why
  set_kind (Ok set) = last

  id-first : (id : ℕ) (named : Bool) (at : ℕ) → set_kind (set_of_id id named at) ≡ first_kind last (refuse_if (not_offered named id) (R.NotOffered at) ∷ [])
  unfolding set_of_id id_of not_offered
  id-first id named at = go (eqb id 10) (eqb id 2) named
    where
      go : (d f n : Bool) → set_kind (cond d (Ok Debug) (cond (f && n) (Ok Flags) (Err (R.NotOffered at))))
          ≡ first_kind last (refuse_if (not (d || (f && n))) (R.NotOffered at) ∷ [])
      go true f n = pass last _ _ _ (no_more last)
      go false true true = pass last _ _ _ (no_more last)
      go false true false = fault last _ _
      go false false n = fault last _ _

  set_first : (s : List ℕ) (from : ℕ) (named : Bool)
      → set_kind (set_reading s from named)
      ≡ first_kind last (walk_checks (walked string_set_policy s from) (λ slots. id_checks s named (from - 4) (get_or slots 1 absent)))
  unfolding set_reading id_judged id_checks
  set_first s from named =
      let w = walked string_set_policy s from in
      let id = get_or w.slots 1 absent in
      walk_step set_kind last w.stop (λ stop. on_stop stop Err (id_judged s (from - 4) named id)) _
      (λ fault at. refl)
      (step set_kind last (not id.present) _ _ _ _ refl (id-first (slot_number s id) named (id.start - 4)))

  -- the STRINGSETs one after the other
  abbrev list_kind : Result Sets Refusal → Kind
  list_kind (Err why) = Refused why
  list_kind (Ok sets) = last

-- the STRINGSETs one after the other, whatever comes behind them
sets_first : (s : List ℕ) (named : Bool) (last : Kind) (sets : Sets) (xs : Attributes) → list_kind last (sets_reading s named sets xs) ≡ first_kind last (each_set s named xs)
unfolding sets_reading each_set
sets_first s named last sets done = no_more last
sets_first s named last sets (broken at) = no_more last
sets_first s named last sets (attribute k b a e rest) =
    go (set_reading (part_of s 0 e) a named) refl (λ more. sets_first s named last more rest)
    ∙ sym (first-append last (walk_checks (walked string_set_policy (part_of s 0 e) a) (λ slots. id_checks (part_of s 0 e) named (a - 4) (get_or slots 1 absent))) (each_set s named rest))
  where
    after : Kind
    after = first_kind last (each_set s named rest)

    go : (v : Result Set Refusal) → set_reading (part_of s 0 e) a named ≡ v → ((more : Sets) → list_kind last (sets_reading s named more rest) ≡ first_kind last (each_set s named rest))
        → list_kind last (and_then v (λ set. sets_reading s named (with_asked sets set) rest))
        ≡ first_kind (first_kind last (each_set s named rest)) (walk_checks (walked string_set_policy (part_of s 0 e) a) (λ slots. id_checks (part_of s 0 e) named (a - 4) (get_or slots 1 absent)))
    go (Err why) q others = sym (ap (set_kind (first_kind last (each_set s named rest))) q) ∙ set_first (first_kind last (each_set s named rest)) (part_of s 0 e) a named
    go (Ok set) q others =
        others (with_asked sets set) ∙ (sym (ap (set_kind (first_kind last (each_set s named rest))) q) ∙ set_first (first_kind last (each_set s named rest)) (part_of s 0 e) a named)

-- STRINGSETS
list-first : (m : List ℕ) (nest : Slot) (named : Bool) (last : Kind) → list_kind last (list_reading m nest named) ≡ first_kind last (sets_checks m nest named)
unfolding list_reading nest_reading sets_checks
list-first m nest named last = go nest.present
  where
    go : (t : Bool) → list_kind last (cond t (nest_reading m nest named) (Ok Nothing))
        ≡ first_kind last
        (cond t
        (walks (walked string_sets_policy (part_of m 0 nest.end) nest.start).stop
        ∷ each_set (part_of m 0 nest.end) named (attributes (part_of m 0 nest.end) nest.start))
        [])
    go true =
        let s = part_of m 0 nest.end in
        walk_step (list_kind last) last (walked string_sets_policy s nest.start).stop (λ stop. on_stop stop Err (sets_reading s named Nothing (attributes s nest.start))) _
        (λ fault at. refl) (sets_first s named last Nothing (attributes s nest.start))
    go false = no_more last

-- what is asked for: a refusal, or whatever comes behind it
module _ (last : Kind) where
  abbrev asked_kind : Result Asked Refusal → Kind
  asked_kind (Err why) = Refused why
  asked_kind (Ok asked) = last

  module _ (m roll : List ℕ) (parts : StrsetParts) where
    sets-kind : (port : Option ℕ) → asked_kind (sets_asked m parts port) ≡ first_kind last (sets_checks m parts.sets (is_some port))
    unfolding sets_asked
    sets-kind port = go (list_reading m parts.sets (is_some port)) ∙ list-first m parts.sets (is_some port) last
      where
        go : (l : Result Sets Refusal) → asked_kind (with_sets l port parts.counts.present) ≡ list_kind last l
        go (Err why) = refl
        go (Ok sets) = refl

    -- 16 and 17 where a port is named, then STRINGSETS
    module _ (header : HeaderParts) (flags : ℕ) where
      targeted : Result ℕ Refusal → Kind
      targeted port = asked_kind (on_target (with_flags port flags) (sets_asked m parts))

      port-kind : (t n : Bool)
          → asked_kind (on_target (cond (t || n) (with_flags (cond t (port_by_index m parts.header header roll) (port_by_name m header.name roll)) flags) (Ok (T.Unnamed flags))) (sets_asked m parts))
          ≡ first_kind last
          (refuse_if (t && no_port (found_by_index roll (slot_number m header.index))) (R.UnknownPort (header.index.start - 4))
          ∷ refuse_if (not t && (n && no_port (found_by_name roll (part_of m header.name.start header.name.end)))) (R.UnknownPort (header.name.start - 4))
          ∷ refuse_if (t && named_otherwise m header.name roll (found_by_index roll (slot_number m header.index))) (R.OtherName (parts.header.start - 4))
          ∷ sets_checks m parts.sets (t || n))
      unfolding targeted with_flags
      port-kind true n =
          target_first m roll parts.header header last targeted (sets_checks m parts.sets true) (λ why. refl) (λ k. sets-kind (Some k)) true n refl
      port-kind false true =
          target_first m roll parts.header header last targeted (sets_checks m parts.sets true) (λ why. refl) (λ k. sets-kind (Some k)) false true refl
      port-kind false false = pass last _ _ _ (pass last _ _ _ (pass last _ _ _ (sets-kind None)))

    header-kind : asked_kind (on_target (optional_target_of m parts.header roll) (sets_asked m parts))
        ≡ first_kind last (walk_checks (walked header_policy (part_of m 0 parts.header.end) parts.header.start) (λ slots. strset_port_checks m roll parts (header_parts slots)))
    unfolding optional_target_of optional_header_of flags_judged port_of strset_port_checks named_port_checks
    header-kind =
        let nest = walked header_policy (part_of m 0 parts.header.end) parts.header.start in
        let header = header_parts nest.slots in
        walk_step headed last nest.stop (λ stop. on_stop stop Err (flags_judged m header)) _
        (λ fault at. refl)
        (step headed last (ltb 3 (slot_number m header.flags)) _ _ _ _ refl
        (port-kind header (slot_number m header.flags) header.index.present header.name.present))
      where
        headed : Result Header Refusal → Kind
        headed hd =
            asked_kind
            (on_target (and_then hd (λ x. cond (gives_port x.parts) (with_flags (port_of m parts.header x.parts roll) x.flags) (Ok (T.Unnamed x.flags)))) (sets_asked m parts))

  asked-kind : (m roll : List ℕ)
      → asked_kind (asked_of m roll) ≡ first_kind last (walk_checks (walked strset_policy m 20) (λ slots. strset_level_checks m roll (strset_parts slots)))
  unfolding asked_of strset_top_of with_header strset_level_checks
  asked-kind m roll =
      let top = walked strset_policy m 20 in
      let parts = strset_parts top.slots in
      walk_step topped last top.stop (λ stop. on_stop stop Err (with_header parts)) _
      (λ fault at. refl)
      (step topped last (not parts.header.present) _ _ _ _ refl (header-kind m roll parts))
    where
      topped : Result StrsetParts Refusal → Kind
      topped top = asked_kind (and_then top (λ parts. on_target (optional_target_of m parts.header roll) (sets_asked m parts)))

-- the whole request, then 25
pub strset-first : (box : Box) (m : List ℕ) (h : MessageHeader) (next : ℕ) → (strset_response box m h next).kind ≡ first_kind Done (strset_checks box m h)
unfolding strset_response content_response strset_checks too_long
strset-first box m h next =
    go (asked_of m box.roll) refl
    ∙ (asked-kind end m box.roll
    ∙ sym (first-append Done (walk_checks (walked strset_policy m 20) (λ slots. strset_level_checks m box.roll (strset_parts slots))) (refuse_if (too_long box m h (asked_of m box.roll)) R.LongReply ∷ [])))
  where
    end : Kind
    end = first_kind Done (refuse_if (too_long box m h (asked_of m box.roll)) R.LongReply ∷ [])

    long : (t : Bool) (bytes : List ℕ) → (cond t (error_response m next R.LongReply) (response_of Done next bytes)).kind ≡ first_kind Done (refuse_if t R.LongReply ∷ [])
    long true bytes = fault Done _ _
    long false bytes = pass Done _ _ _ (no_more Done)

    go : (x : Result Asked Refusal) → asked_of m box.roll ≡ x → (asked_response x box m h next).kind ≡ asked_kind end (asked_of m box.roll)
    go (Err why) q = sym (ap (asked_kind end) q)
    go (Ok asked) q =
        long (ltb 32768 (length (strset_bytes m h (strset_content_in box asked)))) (strset_bytes m h (strset_content_in box asked))
        ∙ sym (ap (λ (x : Result Asked Refusal). first_kind Done (refuse_if (too_long box m h x) R.LongReply ∷ [])) q)
        ∙ sym (ap (asked_kind end) q)
