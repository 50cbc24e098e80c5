-- A STRSET_GET in two messages that agree but for paddings: it asks for the same, or is refused alike.
use Prim.Native.Nat.{ℕ, ◌-◌}
use mathlib.Core.Path.{◌≡◌, refl, sym, ap, ◌∙◌}
use mathlib.Core.List.{List}
use mathlib.Core.Bool.{Bool, true, false, not, cond}
use lib.ListN.{length, get_or}
use native.Mathlib.Omega.{arith}
use Rattle.netlink_attributes.specs.Attributes.{Attributes, attributes, part_of}
use Rattle.netlink_attributes.specs.Attributes.Attributes.{done, broken, attribute}
use Rattle.netlink_attributes.specs.Claims.{Apart}
use Rattle.netlink_attributes.proofs.Apart.{apart}
use Rattle.netlink.specs.Claims.{Passed}
use Rattle.netlink.specs.Claims.Passed.{next}
use Rattle.netlink.proofs.walk.Meaning.{whole-passed, stop_is}
use Rattle.netlink.specs.Policy.{rule_of}
use Rattle.netlink.specs.Walk.{absent, walked}
use Rattle.netlink.specs.declared.walk.Slot.{Slot}
use Rattle.netlink.specs.declared.walk.Stop.{Stop}
use Rattle.netlink.specs.declared.walk.Stop.TheVariants.{Whole, At}
use Rattle.netlink.specs.declared.walk.Walked.{Walked}
use Rattle.refusal.specs.Refusal.{on_stop, on_walk}
use Rattle.refusal.specs.declared.Refusal.{Refusal}
use Rattle.refusal.specs.declared.Refusal.TheVariants as R
use Rattle.request.specs.Optional.{optional_target_of}
use Rattle.strset_request.specs.Policies.{strset_policy, string_sets_policy, string_set_policy}
use Rattle.strset_request.specs.Top.{strset_parts, with_header, strset_top_of}
use Rattle.strset_request.specs.Set.{id_judged, set_reading}
use Rattle.strset_request.specs.List.{with_asked, sets_reading, nest_reading, list_reading}
use Rattle.strset_request.specs.Asked.{with_sets, on_target, sets_asked, asked_of}
use Rattle.strset_request.specs.declared.top.StrsetParts.{StrsetParts}
use Rattle.strset_request.specs.declared.list.Sets.{Sets}
use Rattle.strset_request.specs.declared.list.Sets.TheVariants.{Nothing}
use Rattle.demands.specs.Padding.{SameBytes, Payloads, EachAgrees, NestOf, PlainAgrees, StringSetsAgree, StrsetAgrees}
use Rattle.demands.proofs.PaddingAttributes.{cut-long, attributes-same}
use Rattle.demands.proofs.PaddingWalk.{on-whole, JudgedAlike, nest-judged, nest-or, plain_payloads, same-judged, SlotAgrees, plain-slot, plain-number, walked_same, slot-agrees}
use Rattle.demands.proofs.PaddingWalk.SlotAgrees.{none, some}
use Rattle.demands.proofs.PaddingBitset.{bits-kind, bits_payloads, bits-judged}
use Rattle.demands.proofs.PaddingRequest.{optional-same}
use Rattle.std.specs.Prelude.{Option, Result, Ok, Err, is_some}
use Rattle.layout.specs.declared.Set.{Set}
use Rattle.strset_request.specs.declared.asked.Asked.{Asked}
use Rattle.request.specs.declared.target.Addressee.{Addressee}
use Rattle.request.specs.declared.target.Addressee.TheVariants as T
use Rattle.basics.specs.Results.{and_then}

-- one STRINGSET
module _ (s t : List ℕ) (size : length s ≡ length t) (named : Bool) (from : ℕ) (agree : PlainAgrees s t from) where
  id_same : (slot : Slot) → SlotAgrees s t (plain_payloads s t) 1 slot → id_judged t (from - 4) named slot ≡ id_judged s (from - 4) named slot
  unfolding id_judged
  id_same slot a = rw (plain-number s t slot (plain-slot s t (λ a e q. q) a))

  set_same : set_reading t from named ≡ set_reading s from named
  unfolding set_reading
  set_same =
      let w = walked string_set_policy s from in
      let read : List ℕ → List Slot → (Result Set Refusal) = λ m slots. id_judged m (from - 4) named (get_or slots 1 absent) in
      ap (λ (x : Walked). on_walk x Err (read t))
      (walked_same s t size (plain_payloads s t) string_set_policy (λ kind start end q. same-judged s t (rule_of string_set_policy kind) start end q) from agree)
      ∙ on-whole w Err (read t) (read s)
      (λ (whole : w.stop ≡ Whole). id_same (get_or w.slots 1 absent) (slot-agrees s t size (plain_payloads s t) string_set_policy from agree whole 1 (omega arith)))

-- STRINGSETS from a position on
module _ (s t : List ℕ) (size : length s ≡ length t) (named : Bool) where
  sets_same : (at : ℕ) (xs : Attributes) → Apart s at xs → Passed string_sets_policy s xs done → EachAgrees s t (bits_payloads s t) xs → (sets : Sets)
      → sets_reading t named sets xs ≡ sets_reading s named sets xs
  unfolding sets_reading
  sets_same at done a p q sets = refl
  sets_same at (broken b) a p q sets = refl
  sets_same at (attribute k b start end rest) a (next right p) q sets =
      ap (λ (x : Result Set Refusal). and_then x (λ set. sets_reading t named (with_asked sets set) rest))
      (set_same (part_of s 0 end) (part_of t 0 end) (cut-long s t size end a.3) named start (q.1.0 (bits-kind k b (part_of s start end) right)))
      ∙ go (set_reading (part_of s 0 end) start named) (λ more. sets_same a.5.0 rest a.5.3 p q.2 more)
    where
      go : (x : Result Set Refusal) → ((more : Sets) → sets_reading t named more rest ≡ sets_reading s named more rest)
          → and_then x (λ set. sets_reading t named (with_asked sets set) rest) ≡ and_then x (λ set. sets_reading s named (with_asked sets set) rest)
      go (Err why) f = refl
      go (Ok set) f = f (with_asked sets set)

  nest-at-same : (from : ℕ) → StringSetsAgree s t from
      → on_stop (walked string_sets_policy t from).stop Err (sets_reading t named Nothing (attributes t from))
      ≡ on_stop (walked string_sets_policy s from).stop Err (sets_reading s named Nothing (attributes s from))
  nest-at-same from agree =
      let w = walked string_sets_policy s from in
      let read : List ℕ → (Result Sets Refusal) = λ m. sets_reading m named Nothing (attributes m from) in
      ap (λ (x : Walked). on_stop x.stop Err (read t)) (walked_same s t size (bits_payloads s t) string_sets_policy (bits-judged s t size s) from agree)
      ∙ on-whole w Err (λ slots. read t) (λ slots. read s)
      (λ (whole : w.stop ≡ Whole).
      let passed = whole-passed string_sets_policy s (attributes s from) (sym (stop_is string_sets_policy s from) ∙ whole) in
      ap (λ (xs : Attributes). sets_reading t named Nothing xs) (attributes-same s t size (bits_payloads s t) from agree)
      ∙ sets_same from (attributes s from) (apart s from) passed agree Nothing)

-- how the payloads of the top level agree
abbrev names_payloads : List ℕ → List ℕ → Payloads
names_payloads s t kind start end =
    NestOf 1 kind (PlainAgrees (part_of s 0 end) (part_of t 0 end) start)
    (NestOf 2 kind (StringSetsAgree (part_of s 0 end) (part_of t 0 end) start) (SameBytes s t start end))

-- the top level
module _ (s t : List ℕ) (size : length s ≡ length t) (agree : StrsetAgrees s t) where
  names-judged : (kind start end : ℕ) → names_payloads s t kind start end → JudgedAlike (rule_of strset_policy kind) (part_of t start end) (part_of s start end)
  unfolding rule_of
  names-judged kind start end q =
      let x = part_of t start end in
      let y = part_of s start end in
      nest-or strset_policy 1 kind x y (nest-judged x y)
      (λ r. nest-or strset_policy 2 kind x y (nest-judged x y) (λ same. same-judged s t (rule_of strset_policy kind) start end same) r) q

  list_same : (named : Bool) {slot : Slot} → SlotAgrees s t (names_payloads s t) 2 slot → list_reading t slot named ≡ list_reading s slot named
  unfolding list_reading nest_reading
  list_same named none = refl
  list_same named (some a e l u q) = nest-at-same (part_of s 0 e) (part_of t 0 e) (cut-long s t size e u) named a ((q.1 (λ k. omega arith)).0 refl)

  sets-asked-same : (parts : StrsetParts) → SlotAgrees s t (names_payloads s t) 2 parts.sets → (port : Option ℕ) → sets_asked t parts port ≡ sets_asked s parts port
  unfolding sets_asked
  sets-asked-same parts a port = ap (λ (l : Result Sets Refusal). with_sets l port parts.counts.present) (list_same (is_some port) a)

  target-asked-same : (parts : StrsetParts) (roll : List ℕ) → SlotAgrees s t (names_payloads s t) 2 parts.sets → (x : Result Addressee Refusal)
      → on_target x (sets_asked t parts) ≡ on_target x (sets_asked s parts)
  target-asked-same parts roll a (Err why) = refl
  target-asked-same parts roll a (Ok (T.Unnamed flags)) = sets-asked-same parts a _
  target-asked-same parts roll a (Ok (T.Port target)) = sets-asked-same parts a _

  header-asked-same : (parts : StrsetParts) (roll : List ℕ) {slot : Slot} → SlotAgrees s t (names_payloads s t) 1 slot → slot.present ≡ true
      → optional_target_of t slot roll ≡ optional_target_of s slot roll
  header-asked-same parts roll none e = absurd (let z : ◌≡◌ {A = ℕ} 0 1 = cc in omega arith)
  header-asked-same parts roll (some a e l u q) p = optional-same s t size false roll a e u (q.0 refl)

  pub asked-same : (roll : List ℕ) → asked_of t roll ≡ asked_of s roll
  unfolding asked_of strset_top_of with_header strset_parts
  asked-same roll =
      let w = walked strset_policy s 20 in
      let rest : List ℕ → List Slot → (Result Asked Refusal) =
      λ m slots. and_then (with_header (strset_parts slots)) (λ parts. on_target (optional_target_of m parts.header roll) (sets_asked m parts)) in
      moved t (walked strset_policy t 20)
      ∙ ap (λ (x : Walked). on_walk x Refused' (rest t)) (walked_same s t size (names_payloads s t) strset_policy names-judged 20 agree)
      ∙ on-whole w Refused' (rest t) (rest s)
      (λ (whole : w.stop ≡ Whole).
      let slot = slot-agrees s t size (names_payloads s t) strset_policy 20 agree whole in
      let parts = strset_parts w.slots in
      go parts (slot 1 (omega arith)) (slot 2 (omega arith)) parts.header.present refl)
      ∙ sym (moved s w)
    where
      Refused' : Refusal → Result Asked Refusal
      Refused' why = Err why

      moved : (m : List ℕ) (w : Walked)
          → and_then (on_walk w Err (λ slots. with_header (strset_parts slots))) (λ parts. on_target (optional_target_of m parts.header roll) (sets_asked m parts))
          ≡ on_walk w Refused' (λ slots. and_then (with_header (strset_parts slots)) (λ parts. on_target (optional_target_of m parts.header roll) (sets_asked m parts)))
      moved m w = by w.stop
        where
          by : (x : Stop)
              → and_then (on_stop x Err (with_header (strset_parts w.slots))) (λ parts. on_target (optional_target_of m parts.header roll) (sets_asked m parts))
              ≡ on_stop x Refused' (and_then (with_header (strset_parts w.slots)) (λ parts. on_target (optional_target_of m parts.header roll) (sets_asked m parts)))
          by Whole = refl
          by (At fault at) = refl

      go : (parts : StrsetParts) → SlotAgrees s t (names_payloads s t) 1 parts.header → SlotAgrees s t (names_payloads s t) 2 parts.sets
          → (present : Bool) → parts.header.present ≡ present
          → and_then (cond (not present) (Err (R.MissingTop 1)) (Ok parts)) (λ parts. on_target (optional_target_of t parts.header roll) (sets_asked t parts))
          ≡ and_then (cond (not present) (Err (R.MissingTop 1)) (Ok parts)) (λ parts. on_target (optional_target_of s parts.header roll) (sets_asked s parts))
      go parts one two false e = refl
      go parts one two true e =
          ap (λ (x : Result Addressee Refusal). on_target x (sets_asked t parts)) (header-asked-same parts roll one e)
          ∙ target-asked-same parts roll two (optional_target_of s parts.header roll)
