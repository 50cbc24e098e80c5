-- The walk of a parent in two lists that agree but for paddings: the same stop and the same slots, and the payloads in each slot agree.
--     walked_same        the walk, where payloads that agree are judged alike
--     slot-agrees        of a walk that is whole, each slot
--     nest-judged        a nest is judged by its bits alone, so it may differ in paddings
--     plain-slot, plain-number    the payload and the number of a slot that is no nest are the same
use Prim.Native.Nat.{ℕ, ◌≤◌, ◌<◌}
use mathlib.Core.Path.{◌≡◌, refl, sym, ap, ◌∙◌}
use mathlib.Core.List.{List}
use mathlib.Core.Logic.{◌⊎◌, inl, inr}
use mathlib.Core.Bool.{Bool, true, false}
use lib.ListN.{length, get_or}
use lib.Dec.{eqb}
use borrow.Author.Tests.{eqb-true, eqb-false}
use Rattle.netlink_attributes.specs.Attributes.{part_of, Attributes, attributes}
use Rattle.netlink_attributes.specs.Attributes.Attributes.{done, broken, attribute}
use Rattle.netlink.specs.Policy.{rule_of, judged}
use Rattle.netlink.specs.Walk.{found, absent, first_fault, walked, slot_number}
use Rattle.netlink.specs.Claims.{None, LastIs}
use Rattle.netlink.specs.declared.policy.Rule.{Rule}
use Rattle.netlink.specs.declared.policy.Rule.TheVariants.{Unlisted, Nest}
use Rattle.netlink.specs.declared.walk.Slot.{Slot}
use Rattle.netlink.specs.declared.walk.Stop.{Stop}
use Rattle.netlink.specs.declared.walk.Stop.TheVariants.{Whole, At}
use Rattle.netlink.specs.declared.walk.Walked.{Walked}
use Rattle.netlink.proofs.walk.Meaning.{last-is, slot_is}
use Rattle.refusal.specs.Refusal.{on_stop, on_walk}
use Rattle.refusal.specs.declared.Refusal.{Refusal}
use Rattle.bitset_moved.proofs.Walk.{slot-inside}
use Rattle.demands.specs.Padding.{SameBytes, Payloads, EachAgrees, NestOf}
use Rattle.demands.proofs.PaddingAttributes.{part_none, attributes-same}

-- what comes after a walk, where it is the same of a parent that is right as a whole
pub on-whole : {A : Type 0} (w : Walked) (f : Refusal → A) (g h : List Slot → A) → (w.stop ≡ Whole → g w.slots ≡ h w.slots) → on_walk w f g ≡ on_walk w f h
on-whole w f g h q = go w.stop q
  where
    go : (x : Stop) → (x ≡ Whole → g w.slots ≡ h w.slots) → on_stop x f (g w.slots) ≡ on_stop x f (h w.slots)
    go Whole q = q refl
    go (At fault at) q = refl

-- a rule under which two payloads are judged alike
abbrev pub JudgedAlike : Rule → List ℕ → List ℕ → Type 0
JudgedAlike rule x y = (bits : ℕ) → judged rule bits x ≡ judged rule bits y

pub nest-judged : (x y : List ℕ) → JudgedAlike Nest x y
unfolding judged
nest-judged x y bits = refl

pub unlisted-judged : (x y : List ℕ) → JudgedAlike Unlisted x y
unfolding judged
unlisted-judged x y bits = refl

-- an attribute of one type is a nest, judged alike whatever it holds; one of another type is judged alike otherwise
pub nest-or : (policy : List Rule) (nest kind : ℕ) {agrees otherwise : Type 0} (x y : List ℕ) → JudgedAlike (rule_of policy nest) x y
    → (otherwise → JudgedAlike (rule_of policy kind) x y) → NestOf nest kind agrees otherwise → JudgedAlike (rule_of policy kind) x y
nest-or policy nest kind x y blind other q = go (eqb kind nest) refl
  where
    go : (b : Bool) → eqb kind nest ≡ b → JudgedAlike (rule_of policy kind) x y
    go true e = let k = eqb-true kind nest e in rw k blind
    go false e = other (q.1 (eqb-false kind nest e))

-- how the payloads of a header or a BIT agree: no nest stands in it
abbrev pub plain_payloads : List ℕ → List ℕ → Payloads
plain_payloads s t kind start end = SameBytes s t start end

module _ (s t : List ℕ) where
  pub same-judged : (rule : Rule) (start end : ℕ) → SameBytes s t start end → JudgedAlike rule (part_of t start end) (part_of s start end)
  same-judged rule start end same bits = ap (judged rule bits) (sym same)

  -- a slot: absent, or found inside the list with payloads that agree
  pub data SlotAgrees (payloads : Payloads) (kind : ℕ) : Slot → Type 0 where
    none : SlotAgrees payloads kind absent
    some : (a e : ℕ) → a ≤ e → e ≤ length s → payloads kind a e → SlotAgrees payloads kind (found a e)

  -- a slot that is no nest
  pub plain-slot : {payloads : Payloads} {kind : ℕ} {slot : Slot} → ((a e : ℕ) → payloads kind a e → SameBytes s t a e) → SlotAgrees payloads kind slot
      → part_of t slot.start slot.end ≡ part_of s slot.start slot.end
  plain-slot same none = part_none t ∙ sym (part_none s)
  plain-slot same (some a e l u q) = sym (same a e q)

  pub plain-number : (slot : Slot) → part_of t slot.start slot.end ≡ part_of s slot.start slot.end → slot_number t slot ≡ slot_number s slot
  unfolding slot_number
  plain-number slot e = rw e

module _ (s t : List ℕ) (size : length s ≡ length t) (payloads : Payloads) (policy : List Rule) where
  last-agrees : (kind a e : ℕ) (xs : Attributes) → LastIs kind a e xs → EachAgrees s t payloads xs → payloads kind a e
  last-agrees kind a e done l q = absurd l
  last-agrees kind a e (broken at) l q = absurd l
  last-agrees kind a e (attribute k b start end rest) (inl (i, j, m, n)) q = rw (i, j, m) at q.1
  last-agrees kind a e (attribute k b start end rest) (inr l) q = last-agrees kind a e rest l q.2

  -- each slot of a walk that is whole
  pub slot-agrees : (from : ℕ) → EachAgrees s t payloads (attributes s from) → (walked policy s from).stop ≡ Whole → (kind : ℕ) → kind < 8
      → SlotAgrees s t payloads kind (get_or (walked policy s from).slots kind absent)
  slot-agrees from q w kind l =
      go (last-is kind (attributes s from)) (slot_is policy s from w kind l) (slot-inside s policy from w kind l)
    where
      go : {slot last : Slot}
          → ((last ≡ absent) × None kind (attributes s from)) ⊎ ((a : ℕ) × (e : ℕ) × (last ≡ found a e) × LastIs kind a e (attributes s from))
          → slot ≡ last → (slot.start ≤ slot.end) × (slot.end ≤ length s) → SlotAgrees s t payloads kind slot
      go (inl (e, n)) f b = rw (f, e) none
      go (inr (a, e, g, h)) f b =
          let c : (a ≤ e) × (e ≤ length s) = rw (f, g) at b in
          rw (f, g) (some a e c.0 c.1 (last-agrees kind a e (attributes s from) h q))

  module _ (alike : (kind start end : ℕ) → payloads kind start end → JudgedAlike (rule_of policy kind) (part_of t start end) (part_of s start end)) where
    fault-same : (xs : Attributes) → EachAgrees s t payloads xs → first_fault policy t xs ≡ first_fault policy s xs
    unfolding first_fault
    fault-same done q = refl
    fault-same (broken at) q = refl
    fault-same (attribute k b a e rest) q = rw (alike k a e q.1 b, fault-same rest q.2)

    -- the walk
    pub walked_same : (from : ℕ) → EachAgrees s t payloads (attributes s from) → walked policy t from ≡ walked policy s from
    unfolding walked
    walked_same from q = rw (attributes-same s t size payloads from q, fault-same (attributes s from) q)
