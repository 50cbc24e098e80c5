-- What a STRSET_GET asks for is each id once, where it first stands.
use Prim.Native.Nat.{ℕ, ◌-◌}
use mathlib.Core.Path.{◌≡◌, refl, sym, ap, ◌∙◌}
use mathlib.Core.List.{List, [], ◌∷◌, ◌++◌}
use mathlib.Core.Bool.{Bool, true, false, ◌&&◌, not, cond}
use lib.ListN.{get_or}
use lib.Dec.{eqb}
use native.Mathlib.Omega.{arith}
use borrow.Author.Tests.{eqb-true}
use Rattle.netlink_attributes.specs.Attributes.{Attributes, attributes, part_of}
use Rattle.netlink_attributes.specs.Attributes.Attributes.{done, broken, attribute}
use Rattle.netlink.specs.Walk.{absent, last_of_type, walked, slot_number}
use Rattle.netlink.proofs.walk.Meaning.{slot_is}
use Rattle.netlink.specs.declared.walk.Slot.{Slot}
use Rattle.netlink.specs.declared.walk.Stop.{Stop}
use Rattle.netlink.specs.declared.walk.Stop.TheVariants.{Whole, At}
use Rattle.refusal.specs.Refusal.{on_stop}
use Rattle.refusal.specs.declared.Refusal.TheVariants as R
use Rattle.layout.specs.Layout.{Names, list_of}
use Rattle.layout.specs.declared.Set.{Set}
use Rattle.layout.specs.declared.Set.TheVariants.{Debug, Flags}
use Rattle.strset_request.specs.Policies.{string_sets_policy, string_set_policy}
use Rattle.strset_request.specs.Set.{id_of, set_of_id, id_judged, set_reading}
use Rattle.strset_request.specs.List.{same_set, with_asked, sets_reading, nest_reading, list_reading}
use Rattle.strset_request.specs.Asked.{or_default, with_sets}
use Rattle.strset_request.specs.declared.asked.Asked.{Asked}
use Rattle.strset_request.specs.declared.list.Sets.{Sets}
use Rattle.strset_request.specs.declared.list.Sets.TheVariants.{Nothing, One, Both}
use Rattle.strset_reply.specs.Sets.{other_set}
use Rattle.read_back.specs.Strset.{set_owed, sets_owed}
use Rattle.demands.specs.Names.{ids_in, ids_of, without, once, ids_owed, list_with, set_with, sets_with}
use Rattle.std.specs.Prelude.{Option, Result, Ok, Err, is_some}
use Rattle.refusal.specs.declared.Refusal.{Refusal}
use Rattle.basics.specs.Results.{and_then}

-- the ids of some sets, in order
ids_asked : Sets → List ℕ
ids_asked Nothing = []
ids_asked (One set) = id_of set ∷ []
ids_asked (Both first) = id_of first ∷ id_of (other_set first) ∷ []

-- what is left of the ids behind them: each once, and none of these
left : Sets → List ℕ → List ℕ
left Nothing ids = ids
left (One set) ids = without (id_of set) ids
left (Both first) ids = without (id_of first) (without (id_of (other_set first)) ids)

without-twice : (x : ℕ) (ys : List ℕ) → without x (without x ys) ≡ without x ys
unfolding without
without-twice x [] = refl
without-twice x (y ∷ ys) = go (eqb x y) refl (without-twice x ys)
  where
    go : (t : Bool) → eqb x y ≡ t → without x (without x ys) ≡ without x ys
        → without x (cond t (without x ys) (y ∷ without x ys)) ≡ cond t (without x ys) (y ∷ without x ys)
    go true e h = h
    go false e h = rw e (ap (λ (l : List ℕ). y ∷ l) h)

without-swap : (x z : ℕ) (ys : List ℕ) → without x (without z ys) ≡ without z (without x ys)
unfolding without
without-swap x z [] = refl
without-swap x z (y ∷ ys) = go (eqb x y) (eqb z y) refl refl (without-swap x z ys)
  where
    go : (s t : Bool) → eqb x y ≡ s → eqb z y ≡ t → without x (without z ys) ≡ without z (without x ys)
        → without x (cond t (without z ys) (y ∷ without z ys)) ≡ without z (cond s (without x ys) (y ∷ without x ys))
    go true true e f h = h
    go true false e f h = rw e h
    go false true e f h = rw f h
    go false false e f h = rw (e, f) (ap (λ (l : List ℕ). y ∷ l) h)

-- one id more: those told so far and what is left
more : (sets : Sets) (set : Set) (ids : List ℕ)
    → ids_asked sets ++ left sets (id_of set ∷ without (id_of set) ids) ≡ ids_asked (with_asked sets set) ++ left (with_asked sets set) ids
unfolding ids_asked left with_asked same_set without id_of other_set
more Nothing set ids = refl
more (One Debug) Debug ids = ap (λ (l : List ℕ). 10 ∷ l) (without-twice 10 ids)
more (One Debug) Flags ids = ap (λ (l : List ℕ). 10 ∷ 2 ∷ l) refl
more (One Flags) Debug ids = ap (λ (l : List ℕ). 2 ∷ 10 ∷ l) refl
more (One Flags) Flags ids = ap (λ (l : List ℕ). 2 ∷ l) (without-twice 2 ids)
more (Both Debug) Debug ids = ap (λ (l : List ℕ). 10 ∷ 2 ∷ l) (without-swap 10 2 (without 10 ids) ∙ ap (without 2) (without-twice 10 ids) ∙ without-swap 2 10 ids)
more (Both Debug) Flags ids = ap (λ (l : List ℕ). 10 ∷ 2 ∷ without 10 l) (without-twice 2 ids)
more (Both Flags) Debug ids = ap (λ (l : List ℕ). 2 ∷ 10 ∷ without 2 l) (without-twice 10 ids)
more (Both Flags) Flags ids = ap (λ (l : List ℕ). 2 ∷ 10 ∷ l) (without-swap 2 10 (without 2 ids) ∙ ap (without 10) (without-twice 2 ids) ∙ without-swap 10 2 ids)

-- the id of a STRINGSET that is read as a set
set-id : (s : List ℕ) (from : ℕ) (named : Bool) (set : Set) → set_reading s from named ≡ Ok set
    → slot_number s (last_of_type 1 absent (attributes s from)) ≡ id_of set
unfolding set_reading id_judged set_of_id
set-id s from named set = go (walked string_set_policy s from).stop refl
  where
    slot : Slot
    slot = get_or (walked string_set_policy s from).slots 1 absent

    by : (p : Bool) (d f n : Bool) (id : ℕ) → eqb id (id_of Debug) ≡ d → eqb id (id_of Flags) ≡ f
        → cond (not p) (Err (R.MissingIn 1 (from - 4))) (cond d (Ok Debug) (cond (f && n) (Ok Flags) (Err (R.NotOffered (slot.start - 4))))) ≡ Ok set
        → id ≡ id_of set
    by false d f n id ed ef e = absurd (let z : ◌≡◌ {A = ℕ} 0 1 = cc in omega arith)
    by true true f n id ed ef e = let q : Debug ≡ set = cc in eqb-true id (id_of Debug) ed ∙ ap id_of q
    by true false true true id ed ef e = let q : Flags ≡ set = cc in eqb-true id (id_of Flags) ef ∙ ap id_of q
    by true false true false id ed ef e = absurd (let z : ◌≡◌ {A = ℕ} 0 1 = cc in omega arith)
    by true false false n id ed ef e = absurd (let z : ◌≡◌ {A = ℕ} 0 1 = cc in omega arith)

    go : (t : Stop) → (walked string_set_policy s from).stop ≡ t
        → on_stop t Err
        (cond (not slot.present) (Err (R.MissingIn 1 (from - 4)))
        (cond (eqb (slot_number s slot) (id_of Debug)) (Ok Debug)
        (cond (eqb (slot_number s slot) (id_of Flags) && named) (Ok Flags) (Err (R.NotOffered (slot.start - 4))))))
        ≡ Ok set
        → slot_number s (last_of_type 1 absent (attributes s from)) ≡ id_of set
    go (At fault at) w e = absurd (let z : ◌≡◌ {A = ℕ} 0 1 = cc in omega arith)
    go Whole w e =
        ap (slot_number s) (sym (slot_is string_set_policy s from w 1 (omega arith)))
        ∙ by slot.present (eqb (slot_number s slot) (id_of Debug)) (eqb (slot_number s slot) (id_of Flags)) named (slot_number s slot) refl refl e

-- nothing is left of nothing
none_left : (sets : Sets) → ids_asked sets ≡ ids_asked sets ++ left sets []
unfolding ids_asked left without
none_left Nothing = refl
none_left (One set) = refl
none_left (Both first) = refl

listed_same : (x y : Sets) → ◌≡◌ {A = Result Sets Refusal} (Ok x) (Ok y) → x ≡ y
listed_same x y e = cc

-- the STRINGSETs one after the other
sets-ids : (s : List ℕ) (named : Bool) (sets : Sets) (xs : Attributes) (all : Sets) → sets_reading s named sets xs ≡ Ok all
    → ids_asked all ≡ ids_asked sets ++ left sets (once (ids_in s xs))
unfolding sets_reading ids_in once
sets-ids s named sets done all e = sym (ap ids_asked (listed_same sets all e)) ∙ none_left sets
sets-ids s named sets (broken at) all e = sym (ap ids_asked (listed_same sets all e)) ∙ none_left sets
sets-ids s named sets (attribute k b a e rest) all q =
    go (set_reading (part_of s 0 e) a named) refl q (λ next r. sets-ids s named next rest all r)
  where
    go : (v : Result Set Refusal) → set_reading (part_of s 0 e) a named ≡ v → and_then v (λ set. sets_reading s named (with_asked sets set) rest) ≡ Ok all
        → ((next : Sets) → sets_reading s named next rest ≡ Ok all → ids_asked all ≡ ids_asked next ++ left next (once (ids_in s rest)))
        → ids_asked all
        ≡ ids_asked sets
        ++ left sets
        (slot_number (part_of s 0 e) (last_of_type 1 absent (attributes (part_of s 0 e) a))
        ∷ without (slot_number (part_of s 0 e) (last_of_type 1 absent (attributes (part_of s 0 e) a))) (once (ids_in s rest)))
    go (Err why) v q others = absurd (let z : ◌≡◌ {A = ℕ} 0 1 = cc in omega arith)
    go (Ok set) v q others =
        others (with_asked sets set) q
        ∙ sym (more sets set (once (ids_in s rest)))
        ∙ ap (λ (x : ℕ). ids_asked sets ++ left sets (x ∷ without x (once (ids_in s rest)))) (sym (set-id (part_of s 0 e) a named set v))

-- STRINGSETS
list-ids : (m : List ℕ) (nest : Slot) (named : Bool) (all : Sets) → list_reading m nest named ≡ Ok all → ids_asked all ≡ once (ids_of m nest)
unfolding list_reading nest_reading ids_of ids_asked left once
list-ids m nest named all = go nest.present
  where
    s : List ℕ
    s = part_of m 0 nest.end

    whole : (t : Stop) → on_stop t Err (sets_reading s named Nothing (attributes s nest.start)) ≡ Ok all
        → ids_asked all ≡ once (ids_in s (attributes s nest.start))
    whole Whole e = sets-ids s named Nothing (attributes s nest.start) all e
    whole (At fault at) e = absurd (let z : ◌≡◌ {A = ℕ} 0 1 = cc in omega arith)

    go : (t : Bool)
        → cond t (on_stop (walked string_sets_policy s nest.start).stop Err (sets_reading s named Nothing (attributes s nest.start))) (Ok Nothing) ≡ Ok all
        → ids_asked all ≡ once (cond t (ids_in s (attributes s nest.start)) [])
    go true e = whole (walked string_sets_policy s nest.start).stop e
    go false e = sym (ap ids_asked (listed_same Nothing all e)) ∙ nothing-once
      where
        nothing-once : ids_asked Nothing ≡ once []
        nothing-once = refl

-- the default
default-ids : (sets : Sets) (named : Bool) (ids : List ℕ) → ids_asked sets ≡ once ids → ids_asked (or_default sets named) ≡ ids_owed named ids
unfolding or_default ids_asked ids_owed id_of once
default-ids Nothing named [] e = by named
  where
    by : (n : Bool) → ids_asked (One (cond n Flags Debug)) ≡ cond n 2 10 ∷ []
    by true = refl
    by false = refl
default-ids Nothing named (x ∷ xs) e = absurd (let z : ◌≡◌ {A = ℕ} 0 1 = cc in omega arith)
default-ids (One set) named [] e = absurd (let z : ◌≡◌ {A = ℕ} 0 1 = cc in omega arith)
default-ids (One set) named (x ∷ xs) e = e
default-ids (Both first) named [] e = absurd (let z : ◌≡◌ {A = ℕ} 0 1 = cc in omega arith)
default-ids (Both first) named (x ∷ xs) e = e

-- what a reply owes of some sets is what is told of their ids
owed-set : (counts : Bool) (names : Names) (set : Set) → set_owed counts names set ≡ set_with counts names (id_of set)
unfolding set_owed set_with list_of list_with id_of
owed-set counts names Debug = refl
owed-set counts names Flags = refl

owed-sets : (counts : Bool) (names : Names) (sets : Sets) → sets_owed counts names sets ≡ sets_with counts names (ids_asked sets)
unfolding sets_owed ids_asked sets_with
owed-sets counts names Nothing = refl
owed-sets counts names (One set) = rw (owed-set counts names set)
owed-sets counts names (Both first) = rw (owed-set counts names first, owed-set counts names (other_set first))

-- what STRINGSETS lists, or the default, for a port or for none
pub sets-told : (m : List ℕ) (nest : Slot) (port : Option ℕ) (counts : Bool) (asked : Asked) → with_sets (list_reading m nest (is_some port)) port counts ≡ Ok asked → (names : Names)
    → (asked.port ≡ port) × (sets_owed asked.counts names asked.sets ≡ sets_with counts names (ids_owed (is_some port) (ids_of m nest)))
sets-told m nest port counts asked q names = listed (list_reading m nest (is_some port)) refl q
  where
    listed : (l : Result Sets Refusal) → list_reading m nest (is_some port) ≡ l → with_sets l port counts ≡ Ok asked
        → (asked.port ≡ port) × (sets_owed asked.counts names asked.sets ≡ sets_with counts names (ids_owed (is_some port) (ids_of m nest)))
    listed (Err why) e q = absurd (let z : ◌≡◌ {A = ℕ} 0 1 = cc in omega arith)
    listed (Ok sets) e q =
        let same : record { port = port; sets = or_default sets (is_some port); counts = counts } ≡ asked = cc in
        rw (← same) (
          refl,
          owed-sets counts names (or_default sets (is_some port))
              ∙ ap (sets_with counts names) (default-ids sets (is_some port) (ids_of m nest) (list-ids m nest (is_some port) sets e)),
        )
