-- What is read of a STRSET_GET stands in its parent, apart from its siblings: from the id of a STRINGSET up to the nests of the top level.
use Prim.Native.Nat.{ℕ, ◌+◌, ◌-◌, ◌≤◌, ◌<◌}
use mathlib.Core.Path.{◌≡◌, refl, sym, ◌∙◌}
use mathlib.Core.List.{List}
use mathlib.Core.Bool.{Bool, true, false, not, cond}
use lib.ListN.{length, get_or}
use native.Mathlib.Omega.{arith}
use Rattle.netlink_attributes.specs.Attributes.{Attributes, attributes, part_of}
use Rattle.netlink_attributes.specs.Attributes.Attributes.{done, attribute, broken}
use Rattle.netlink_attributes.specs.Claims.{Apart}
use Rattle.netlink_attributes.proofs.Apart.{apart}
use Rattle.netlink.specs.Walk.{absent, walked}
use Rattle.netlink.specs.Claims.{Passed}
use Rattle.netlink.specs.Claims.Passed.{here, next}
use Rattle.netlink.proofs.walk.Meaning.{whole-passed, stop_is}
use Rattle.netlink.proofs.walk.Place.{slot-inside, fault-inside}
use Rattle.netlink.specs.declared.walk.Slot.{Slot}
use Rattle.netlink.specs.declared.walk.Stop.{Stop}
use Rattle.netlink.specs.declared.walk.Stop.TheVariants.{Whole, At}
use Rattle.refusal.specs.Refusal.{on_stop}
use Rattle.refusal.specs.declared.Refusal.TheVariants as R
use Rattle.layout.specs.declared.Set.{Set}
use Rattle.request.specs.Policies.{header_policy}
use Rattle.request.specs.Parts.{header_parts}
use Rattle.request.specs.Header.{flags_judged}
use Rattle.request.specs.Optional.{optional_header_of}
use Rattle.request.specs.declared.parts.HeaderParts.{HeaderParts}
use Rattle.strset_request.specs.Policies.{strset_policy, string_sets_policy, string_set_policy}
use Rattle.strset_request.specs.Top.{strset_parts, with_header, strset_top_of}
use Rattle.strset_request.specs.Set.{id_judged, set_reading}
use Rattle.strset_request.specs.List.{with_asked, sets_reading, nest_reading}
use Rattle.strset_request.specs.declared.top.StrsetParts.{StrsetParts}
use Rattle.strset_request.specs.declared.list.Sets.{Sets}
use Rattle.strset_request.specs.declared.list.Sets.TheVariants.{Nothing}
use Rattle.demands.specs.Parts.{StandsIn}
use Rattle.demands.specs.StrsetParts.{StringSetsRead, NestRead, OptionalRead, NamesNests}
use Rattle.demands.specs.StrsetParts.StringSetsRead.{no_set, set_fault, set_read}
use Rattle.demands.specs.StrsetParts.NestRead.{nest_fault, nest_read}
use Rattle.demands.specs.StrsetParts.OptionalRead.{header_fault, header_read}
use Rattle.demands.proofs.Parts.{front_length, three-parts}
use Rattle.std.specs.Prelude.{Result, Ok, Err}
use Rattle.refusal.specs.declared.Refusal.{Refusal}
use Rattle.basics.specs.Results.{and_then}

-- the STRINGSETs from a place on, of which only padding parts it
module _ (s : List ℕ) (named : Bool) where
  sets-read : (before at : ℕ) → before ≤ at → at < before + 4 → (xs : Attributes) → Apart s at xs → Passed string_sets_policy s xs done → (sets : Sets)
      → StringSetsRead s named before sets (sets_reading s named sets xs)
  unfolding sets_reading set_reading
  sets-read before at lo hi done q here sets = no_set {at = before} (omega (arith, q))
  sets-read before at lo hi (broken _) q never sets = elim never [ ]
  sets-read before at lo hi (attribute k b a e rest) q (next right others) sets =
      go (walked string_set_policy (part_of s 0 e) a).stop refl (λ set. sets-read e q.5.0 q.5.1 q.5.4 rest q.5.3 others (with_asked sets set))
    where
      stands : StandsIn before (length s) a e
      stands = let i = q.0 in (omega arith, omega arith, q.2, q.3)

      cut : length (part_of s 0 e) ≡ e
      cut = front_length s e q.3

      go : (t : Stop) → (walked string_set_policy (part_of s 0 e) a).stop ≡ t
          → ((set : Set) → StringSetsRead s named e (with_asked sets set) (sets_reading s named (with_asked sets set) rest))
          → StringSetsRead s named before sets
          (and_then (on_stop t Err (id_judged (part_of s 0 e) (a - 4) named (get_or (walked string_set_policy (part_of s 0 e) a).slots 1 absent)))
          (λ set. sets_reading s named (with_asked sets set) rest))
      go Whole w others =
          set_read a e stands _ (rw cut at (slot-inside string_set_policy (part_of s 0 e) a w 1 (omega arith)), tt, tt) (λ set. sets_reading s named (with_asked sets set) rest) others
      go (At fault place) w others =
          let i = fault-inside string_set_policy (part_of s 0 e) a fault place w in
          let h = i.1 in
          set_fault a e stands fault place i.0 (omega (arith, cut))

-- STRINGSETS, the header nest, and the top level
module _ (m : List ℕ) where
  nest-read : (nest : Slot) (named : Bool) → nest.end ≤ length m → NestRead m nest named
  unfolding nest_reading
  nest-read nest named hi = go (walked string_sets_policy s nest.start).stop refl refl
    where
      s : List ℕ
      s = part_of m 0 nest.end

      list : Result Sets Refusal
      list = sets_reading s named Nothing (attributes s nest.start)

      go : (t : Stop) → (walked string_sets_policy s nest.start).stop ≡ t → nest_reading m nest named ≡ on_stop t Err list → NestRead m nest named
      go Whole w e =
          let passed = whole-passed string_sets_policy s (attributes s nest.start) (sym (stop_is string_sets_policy s nest.start) ∙ w) in
          nest_read list (sets-read s named nest.start nest.start (omega arith) (omega arith) _ (apart s nest.start) passed Nothing) e
      go (At fault place) w e =
          let i = fault-inside string_sets_policy s nest.start fault place w in
          let h = i.1 in
          nest_fault fault place i.0 (omega (arith, front_length m nest.end hi)) e

  optional-read : (header : Slot) → header.end ≤ length m → OptionalRead m header
  unfolding optional_header_of header_parts
  optional-read header hi = go (walked header_policy s header.start).stop refl refl
    where
      s : List ℕ
      s = part_of m 0 header.end

      read : HeaderParts
      read = header_parts (walked header_policy s header.start).slots

      go : (t : Stop) → (walked header_policy s header.start).stop ≡ t → optional_header_of m header ≡ on_stop t Err (flags_judged m read) → OptionalRead m header
      go Whole w e = header_read read (rw (front_length m header.end hi) at (three-parts header_policy s header.start w)) e
      go (At fault place) w e =
          let i = fault-inside header_policy s header.start fault place w in
          let h = i.1 in
          header_fault fault place i.0 (omega (arith, front_length m header.end hi)) e

  pub names-read : (top : StrsetParts) → strset_top_of m ≡ Ok top → NamesNests m top
  unfolding strset_top_of with_header strset_parts
  names-read top = go (walked strset_policy m 20).stop refl
    where
      read : StrsetParts
      read = strset_parts (walked strset_policy m 20).slots

      is-it : (a : Bool) → cond (not a) (Err (R.MissingTop 1)) (Ok read) ≡ Ok top → (read ≡ top) × (a ≡ true)
      is-it false e = absurd (let z : ◌≡◌ {A = ℕ} 0 1 = cc in omega arith)
      is-it true e = (cc, refl)

      go : (t : Stop) → (walked strset_policy m 20).stop ≡ t → on_stop t Err (with_header read) ≡ Ok top → NamesNests m top
      go (At fault place) w e = absurd (let z : ◌≡◌ {A = ℕ} 0 1 = cc in omega arith)
      go Whole w e =
          let is = is-it read.header.present e in
          let header-in = slot-inside strset_policy m 20 w 1 (omega arith) is.1 in
          rw (← is.0)
          (record {
            nests = three-parts strset_policy m 20 w;
            header = optional-read read.header header-in.2;
            sets = λ named t. nest-read read.sets named (slot-inside strset_policy m 20 w 2 (omega arith) t).2;
          })
