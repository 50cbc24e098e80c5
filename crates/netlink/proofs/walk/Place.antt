-- Where the attributes that a walk tells stand.
--     slot-inside     an attribute of a parent that is right as a whole stands inside it
--     slots-disjoint  two of different types do not overlap
--     fault-inside    the place of a fault is in the parent
use Prim.Native.Nat.{ℕ, ◌+◌, ◌-◌, ◌≤◌, ◌<◌}
use mathlib.Core.Path.{◌≡◌, refl, sym, ◌∙◌}
use mathlib.Core.List.{List}
use mathlib.Core.Logic.{◌⊎◌, inl, inr}
use lib.ListN.{length, get_or}
use native.Mathlib.Omega.{arith}
use Rattle.basics.proofs.Truth.{clash}
use Rattle.netlink_attributes.specs.Attributes.{Attributes, attributes, part_of}
use Rattle.netlink_attributes.specs.Attributes.Attributes.{done, broken, attribute}
use Rattle.netlink_attributes.specs.Claims.{Apart}
use Rattle.netlink_attributes.proofs.Apart.{apart}
use Rattle.netlink.specs.Policy.{rule_of, judged}
use Rattle.netlink.specs.Walk.{found, absent, on_verdict, first_fault, last_of_type, walked}
use Rattle.netlink.specs.Claims.{LastIs, None, Inside, Disjoint}
use Rattle.netlink.specs.declared.policy.Rule.{Rule}
use Rattle.netlink.specs.declared.policy.Fault.{Fault}
use Rattle.netlink.specs.declared.policy.Verdict.{Verdict}
use Rattle.netlink.specs.declared.policy.Verdict.TheVariants.{Right, Wrong}
use Rattle.netlink.specs.declared.walk.Slot.{Slot}
use Rattle.netlink.specs.declared.walk.Stop.TheVariants.{Whole, At}
use Rattle.netlink.proofs.walk.Meaning.{last-is, stop_is, slot_is}

-- the last attribute of a type among those from a place on
last-inside : (s : List ℕ) (at kind a e : ℕ) (xs : Attributes) → Apart s at xs → LastIs kind a e xs → (at + 4 ≤ a) × (a ≤ e) × (e ≤ length s)
last-inside s at kind a e done q h = absurd h
last-inside s at kind a e (broken p) q h = absurd h
last-inside s at kind a e (attribute k b start end rest) q (inl here) =
    let i = q.0 in
    let j = q.2 in
    let l = q.3 in
    let x = here.1 in
    let y = here.2 in
    (omega arith, omega arith, omega arith)
last-inside s at kind a e (attribute k b start end rest) q (inr later) =
    let r = last-inside s q.5.0 kind a e rest q.5.3 later in
    let i = q.0 in
    let j = q.2 in
    let n = q.5.1 in
    let x = r.0 in
    (omega arith, r.1, r.2)

last-disjoint : (s : List ℕ) (at i j a e a' e' : ℕ) (xs : Attributes) → (i ≡ j → ⊥) → Apart s at xs → LastIs i a e xs → LastIs j a' e' xs
    → (e + 4 ≤ a') ⊎ (e' + 4 ≤ a)
last-disjoint s at i j a e a' e' done n q h g = absurd h
last-disjoint s at i j a e a' e' (broken p) n q h g = absurd h
last-disjoint s at i j a e a' e' (attribute k b start end rest) n q (inl h) (inl g) = absurd (n (sym h.0 ∙ g.0))
last-disjoint s at i j a e a' e' (attribute k b start end rest) n q (inl h) (inr g) =
    let r = (last-inside s q.5.0 j a' e' rest q.5.3 g).0 in
    let x = q.5.1 in
    let y = h.2 in
    inl (omega arith)
last-disjoint s at i j a e a' e' (attribute k b start end rest) n q (inr h) (inl g) =
    let r = (last-inside s q.5.0 i a e rest q.5.3 h).0 in
    let x = q.5.1 in
    let y = g.2 in
    inr (omega arith)
last-disjoint s at i j a e a' e' (attribute k b start end rest) n q (inr h) (inr g) =
    last-disjoint s q.5.0 i j a e a' e' rest n q.5.3 h g

-- the place of the first fault
place_inside : (p : List Rule) (s : List ℕ) (at place : ℕ) (f : Fault) (xs : Attributes) → Apart s at xs → first_fault p s xs ≡ At f place
    → (at ≤ place) × (place < length s)
unfolding first_fault
place_inside p s at place f done q e = absurd (let z : ◌≡◌ {A = ℕ} 0 1 = cc in omega arith)
place_inside p s at place f (broken b) q e = let i = q.0 in let j = q.1 in let x : b ≡ place = cc in (omega arith, omega arith)
place_inside p s at place f (attribute k b start end rest) q e =
    go (judged (rule_of p k) b (part_of s start end)) e (λ h. place_inside p s q.5.0 place f rest q.5.3 h)
  where
    go : (v : Verdict) → on_verdict v (start - 4) (first_fault p s rest) ≡ At f place
        → (first_fault p s rest ≡ At f place → (q.5.0 ≤ place) × (place < length s)) → (at ≤ place) × (place < length s)
    go Right e h = let r = h e in let i = q.0 in let j = q.2 in let x = q.5.1 in let y = r.0 in (omega arith, r.1)
    go (Wrong w) e h = let i = q.0 in let j = q.2 in let l = q.3 in let x : start - 4 ≡ place = cc in (omega arith, omega arith)

-- what is told of a type: no attribute has it, or the last one that has
abbrev Last : ℕ → Attributes → Type 0
Last kind xs = ((last_of_type kind absent xs ≡ absent) × None kind xs) ⊎ ((a : ℕ) × (e : ℕ) × (last_of_type kind absent xs ≡ found a e) × LastIs kind a e xs)

module _ (p : List Rule) (s : List ℕ) (from : ℕ) where
  pub fault-inside : (f : Fault) (place : ℕ) → (walked p s from).stop ≡ At f place → (from ≤ place) × (place < length s)
  fault-inside f place e = place_inside p s from place f (attributes s from) (apart s from) (sym (stop_is p s from) ∙ e)

  module _ (whole : (walked p s from).stop ≡ Whole) where
    abbrev slot : ℕ → Slot
    slot kind = get_or (walked p s from).slots kind absent

    pub slot-inside : (kind : ℕ) → kind < 8 → Inside from (length s) (slot kind)
    slot-inside kind l = rw (slot_is p s from whole kind l) (go (last-is kind (attributes s from)))
      where
        go : Last kind (attributes s from) → Inside from (length s) (last_of_type kind absent (attributes s from))
        go (inl (none, h)) = rw none (λ t. absurd (clash t refl))
        go (inr (a, e, is, h)) = rw is (λ t. last-inside s from kind a e (attributes s from) (apart s from) h)

    pub slots-disjoint : (i j : ℕ) → i < 8 → j < 8 → (i ≡ j → ⊥) → Disjoint (slot i) (slot j)
    slots-disjoint i j l k n = rw (slot_is p s from whole i l, slot_is p s from whole j k) (go (last-is i (attributes s from)) (last-is j (attributes s from)))
      where
        go : Last i (attributes s from) → Last j (attributes s from) → Disjoint (last_of_type i absent (attributes s from)) (last_of_type j absent (attributes s from))
        go (inl (none, h)) other = rw none (λ t u. absurd (clash t refl))
        go (inr first) (inl (none, h)) = rw none (λ t u. absurd (clash u refl))
        go (inr (a, e, is, h)) (inr (a', e', is', g)) = rw (is, is') (λ t u. last-disjoint s from i j a e a' e' (attributes s from) n (apart s from) h g)
