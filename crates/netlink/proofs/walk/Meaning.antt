-- A walk's answer as a statement: it stops at the first fault in order, or is whole and tells for each type the last attribute.
use Prim.Native.Nat.{ℕ, zero, suc, ◌-◌, ◌<◌}
use mathlib.Core.Path.{◌≡◌, refl, sym, ap, ◌∙◌}
use mathlib.Core.List.{List}
use mathlib.Core.Bool.{Bool, true, false, cond}
use mathlib.Core.Logic.{◌⊎◌, inl, inr}
use lib.ListN.{get_or}
use lib.Dec.{eqb}
use native.Mathlib.Omega.{arith}
use borrow.Author.Tests.{eqb-true, eqb-false}
use Rattle.netlink_attributes.specs.Attributes.{part_of, Attributes, attributes}
use Rattle.netlink_attributes.specs.Attributes.Attributes.{done, broken, attribute}
use Rattle.netlink.specs.Policy.{rule_of, judged}
use Rattle.netlink.specs.Walk.{found, absent, on_verdict, first_fault, last_of_type, each_type, walked_to, walked}
use Rattle.netlink.specs.Claims.{Passed, FaultyHere, None, LastIs}
use Rattle.netlink.specs.Claims.Passed.{here, next}
use Rattle.netlink.specs.declared.policy.Rule.{Rule}
use Rattle.netlink.specs.declared.policy.Fault.{Fault}
use Rattle.netlink.specs.declared.policy.Verdict.{Verdict}
use Rattle.netlink.specs.declared.policy.Verdict.TheVariants.{Right, Wrong}
use Rattle.netlink.specs.declared.walk.Slot.{Slot}
use Rattle.netlink.specs.declared.walk.Stop.{Stop}
use Rattle.netlink.specs.declared.walk.Stop.TheVariants.{Whole, At}

-- whole: every attribute is right, to the parent's end
pub whole-passed : (p : List Rule) (s : List ℕ) (xs : Attributes) → first_fault p s xs ≡ Whole → Passed p s xs done
unfolding first_fault
whole-passed p s done q = here
whole-passed p s (broken at) q = absurd (let z : ◌≡◌ {A = ℕ} 0 1 = cc in omega arith)
whole-passed p s (attribute k b a e rest) q = go (judged (rule_of p k) b (part_of s a e)) refl q (λ h. whole-passed p s rest h)
  where
    go : (v : Verdict) → judged (rule_of p k) b (part_of s a e) ≡ v → on_verdict v (a - 4) (first_fault p s rest) ≡ Whole
        → (first_fault p s rest ≡ Whole → Passed p s rest done) → Passed p s (attribute k b a e rest) done
    go Right e q f = next e (f q)
    go (Wrong w) e q f = absurd (let z : ◌≡◌ {A = ℕ} 0 1 = cc in omega arith)

pub passed-whole : (p : List Rule) (s : List ℕ) (xs : Attributes) → Passed p s xs done → first_fault p s xs ≡ Whole
unfolding first_fault
passed-whole p s xs here = refl
passed-whole p s (attribute k b a e rest) (next h r) = rw h (passed-whole p s rest r)

-- a fault: the attributes before it are right, and it is the next one's
pub fault-first : (p : List Rule) (s : List ℕ) (f : Fault) (at : ℕ) (xs : Attributes) → first_fault p s xs ≡ At f at
    → (ys : Attributes) × Passed p s xs ys × FaultyHere p s f at ys
unfolding first_fault
fault-first p s f at done q = absurd (let z : ◌≡◌ {A = ℕ} 0 1 = cc in omega arith)
fault-first p s f at (broken place) q = (broken place, here, (cc, cc))
fault-first p s f at (attribute k b a e rest) q = go (judged (rule_of p k) b (part_of s a e)) refl q (λ h. fault-first p s f at rest h)
  where
    go : (v : Verdict) → judged (rule_of p k) b (part_of s a e) ≡ v → on_verdict v (a - 4) (first_fault p s rest) ≡ At f at
        → (first_fault p s rest ≡ At f at → (ys : Attributes) × Passed p s rest ys × FaultyHere p s f at ys)
        → (ys : Attributes) × Passed p s (attribute k b a e rest) ys × FaultyHere p s f at ys
    go Right h q i = let r = i q in (r.0, next h r.1, r.2)
    go (Wrong w) h q i =
        let ew : w ≡ f = cc in
        let ea : at ≡ a - 4 = cc in
        (attribute k b a e rest, here, (h ∙ ap Wrong ew, ea))

pub first-fault : (p : List Rule) (s : List ℕ) (f : Fault) (at : ℕ) (xs ys : Attributes) → Passed p s xs ys → FaultyHere p s f at ys
    → first_fault p s xs ≡ At f at
unfolding first_fault
first-fault p s f at xs done here h = absurd h
first-fault p s f at xs (broken place) here h = let e = h.0 in let g = h.1 in cc
first-fault p s f at xs (attribute k b a e rest) here h = let q = h.0 in let g = h.1 in rw (q, g)
first-fault p s f at (attribute k b a e rest) ys (next q r) h = rw q (first-fault p s f at rest ys r h)

-- the last attribute of a type, the slot given where none has it
last-slot : (kind : ℕ) (slot : Slot) (xs : Attributes)
    → ((last_of_type kind slot xs ≡ slot) × None kind xs) ⊎ ((a : ℕ) × (e : ℕ) × (last_of_type kind slot xs ≡ found a e) × LastIs kind a e xs)
unfolding last_of_type
last-slot kind slot done = inl (refl, tt)
last-slot kind slot (broken p) = inl (refl, tt)
last-slot kind slot (attribute k b a e rest) =
    go (eqb k kind) refl (last-slot kind (cond (eqb k kind) (found a e) slot) rest)
  where
    go : (t : Bool) → eqb k kind ≡ t
        → ((last_of_type kind (cond t (found a e) slot) rest ≡ cond t (found a e) slot) × None kind rest)
        ⊎ ((a' : ℕ) × (e' : ℕ) × (last_of_type kind (cond t (found a e) slot) rest ≡ found a' e') × LastIs kind a' e' rest)
        → ((last_of_type kind (cond t (found a e) slot) rest ≡ slot) × ((k ≡ kind → ⊥) × None kind rest))
        ⊎ ((a' : ℕ) × (e' : ℕ) × (last_of_type kind (cond t (found a e) slot) rest ≡ found a' e')
        × (((k ≡ kind) × (a ≡ a') × (e ≡ e') × None kind rest) ⊎ LastIs kind a' e' rest))
    go t q (inr (a', e', l, r)) = inr (a', e', l, inr r)
    go true q (inl (l, n)) = inr (a, e, l, inl (eqb-true k kind q, refl, refl, n))
    go false q (inl (l, n)) = inl (l, (eqb-false k kind q, n))

pub last-is : (kind : ℕ) (xs : Attributes)
    → ((last_of_type kind absent xs ≡ absent) × None kind xs) ⊎ ((a : ℕ) × (e : ℕ) × (last_of_type kind absent xs ≡ found a e) × LastIs kind a e xs)
last-is kind xs = last-slot kind absent xs

-- what a caller of walk learns of its stop and its slots
module _ (p : List Rule) (s : List ℕ) (from : ℕ) where
  pub stop_is : (walked p s from).stop ≡ first_fault p s (attributes s from)
  unfolding walked
  stop_is = go (first_fault p s (attributes s from))
    where
      go : (t : Stop) → (walked_to t (each_type (λ kind. last_of_type kind absent (attributes s from)))).stop ≡ t
      go Whole = refl
      go (At f at) = refl

  pub slot_is : (walked p s from).stop ≡ Whole → (kind : ℕ) → kind < 8
      → get_or (walked p s from).slots kind absent ≡ last_of_type kind absent (attributes s from)
  unfolding walked
  slot_is w kind l = go (first_fault p s (attributes s from)) (sym stop_is ∙ w)
    where
      each : (f : ℕ → Slot) (kind : ℕ) → kind < 8 → get_or (each_type f) kind absent ≡ f kind
      each f zero l = refl
      each f (suc zero) l = refl
      each f (suc (suc zero)) l = refl
      each f (suc (suc (suc zero))) l = refl
      each f (suc (suc (suc (suc zero)))) l = refl
      each f (suc (suc (suc (suc (suc zero))))) l = refl
      each f (suc (suc (suc (suc (suc (suc zero)))))) l = refl
      each f (suc (suc (suc (suc (suc (suc (suc zero))))))) l = refl
      each f (suc (suc (suc (suc (suc (suc (suc (suc k)))))))) l = absurd (omega arith)

      go : (t : Stop) → t ≡ Whole → get_or (walked_to t (each_type (λ i. last_of_type i absent (attributes s from)))).slots kind absent ≡ last_of_type kind absent (attributes s from)
      go Whole q = each (λ i. last_of_type i absent (attributes s from)) kind l
      go (At f at) q = absurd (let z : ◌≡◌ {A = ℕ} 0 1 = cc in omega arith)
