-- Laws of the walk: one for each return and each turn of its loop.
use Prim.Native.Nat.{ℕ, ◌-◌, ◌<◌}
use mathlib.Core.Path.{◌≡◌, refl, sym, ap, ◌∙◌, fun_ext}
use mathlib.Core.List.{List, [], ◌∷◌}
use mathlib.Core.Bool.{Bool, true, false, cond}
use mathlib.Core.Logic.{⊎_elim}
use lib.ListN.{length, get_or, set}
use lib.Seq.{get_or-set_same, get_or-set_other}
use lib.Dec.{eqb}
use native.Mathlib.Omega.{arith}
use borrow.Author.Tests.{eqb-true, eqb-false}
use Rattle.basics.proofs.Order.{lt-or-ge}
use Rattle.basics.specs.Numbers.{u32_at}
use Rattle.netlink_attributes.specs.Attributes.{attribute_at, part_of, Attributes, on_read, attributes}
use Rattle.netlink_attributes.specs.Attributes.Attributes.{attribute}
use Rattle.netlink.specs.Policy.{rule_of, judged}
use Rattle.netlink.specs.Walk.{found, absent, absent_all, first_fault, last_of_type, each_type, stopped, walked_to, walked, slot_number}
use Rattle.netlink.specs.declared.policy.Rule.{Rule}
use Rattle.netlink.specs.declared.policy.Rule.TheVariants.{Unlisted}
use Rattle.netlink.specs.declared.policy.Fault.{Fault}
use Rattle.netlink.specs.declared.policy.Fault.TheVariants.{Length, Unknown}
use Rattle.netlink.specs.declared.policy.Verdict.{Verdict}
use Rattle.netlink.specs.declared.policy.Verdict.TheVariants.{Right, Wrong}
use Rattle.netlink_attributes.specs.declared.AttributeRead.{AttributeRead}
use Rattle.netlink_attributes.specs.declared.Attribute.{Attribute}
use Rattle.netlink_attributes.specs.declared.AttributeRead.TheVariants as A
use Rattle.netlink.specs.declared.walk.Slot.{Slot}
use Rattle.netlink.specs.declared.walk.Stop.TheVariants.{Whole}
use Rattle.netlink.specs.declared.walk.Walked.{Walked}
use Rattle.netlink_attributes.proofs.Laws.{Bounded, bounded, attributes-step}
use Rattle.netlink.proofs.policy.Laws.{rule-past}

module _ (s : List ℕ) (slot : Slot) where
  pub slot-there : (b : List ℕ) (r : ℕ) → slot.present ≡ true → b ≡ part_of s slot.start slot.end → r ≡ u32_at b 0 → r ≡ slot_number s slot
  unfolding slot_number
  slot-there b r e eb er = rw (e, ← eb) er

  pub slot-absent : slot.present ≡ false → 0 ≡ slot_number s slot
  unfolding slot_number
  slot-absent e = rw e

pub ruleset slot_laws = (slot-there, slot-absent)

-- the answer of a walk that has slots w and these attributes before it
abbrev pub walked_on : List Rule → List ℕ → List Slot → Attributes → Walked
walked_on p s w xs = walked_to (first_fault p s xs) (each_type (λ kind. last_of_type kind (get_or w kind absent) xs))

-- what holds before the attribute at a place is read, with slots w
abbrev pub WalkFrom : List Rule → List ℕ → ℕ → List Slot → ℕ → Type 0
WalkFrom p s from w at = walked p s from ≡ walked_on p s w (attributes s at)

pub walk_start : (p : List Rule) (s : List ℕ) (from : ℕ) (w : List Slot) → w ≡ absent_all → WalkFrom p s from w from
unfolding walked
walk_start p s from w e = rw e

-- a list of eight is its eight elements
each-self : (w : List Slot) → length w ≡ 8 → each_type (λ kind. get_or w kind absent) ≡ w
each-self [] h = absurd (omega arith)
each-self (a ∷ []) h = absurd (omega arith)
each-self (a ∷ b ∷ []) h = absurd (omega arith)
each-self (a ∷ b ∷ c ∷ []) h = absurd (omega arith)
each-self (a ∷ b ∷ c ∷ d ∷ []) h = absurd (omega arith)
each-self (a ∷ b ∷ c ∷ d ∷ e ∷ []) h = absurd (omega arith)
each-self (a ∷ b ∷ c ∷ d ∷ e ∷ f ∷ []) h = absurd (omega arith)
each-self (a ∷ b ∷ c ∷ d ∷ e ∷ f ∷ g ∷ []) h = absurd (omega arith)
each-self (a ∷ b ∷ c ∷ d ∷ e ∷ f ∷ g ∷ i ∷ []) h = refl
each-self (a ∷ b ∷ c ∷ d ∷ e ∷ f ∷ g ∷ i ∷ j ∷ w) h = absurd (omega arith)

-- one slot replaced
set-slot : (w : List Slot) (k kind : ℕ) (x : Slot) → k < length w → get_or (set w k x) kind absent ≡ cond (eqb k kind) x (get_or w kind absent)
set-slot w k kind x h = go (eqb k kind) refl
  where
    go : (t : Bool) → eqb k kind ≡ t → get_or (set w k x) kind absent ≡ cond t x (get_or w kind absent)
    go true e = let q : kind ≡ k = sym (eqb-true k kind e) in rw q (get_or-set_same w k x absent h)
    go false e = get_or-set_other w k kind x absent (λ q. eqb-false k kind e (sym q))

module _ (p : List Rule) (s : List ℕ) (from : ℕ) (w : List Slot) (at : ℕ) (inv : WalkFrom p s from w at) (r : AttributeRead) (e : r ≡ attribute_at s at) where
  step : walked p s from ≡ walked_on p s w (on_read r at (attributes s))
  step = inv ∙ ap (walked_on p s w) (attributes-step s at ∙ ap (λ (x : AttributeRead). on_read x at (attributes s)) (sym e))

  pub walk_end : length w ≡ 8 → r ≡ A.End → record { stop = Whole; slots = w } ≡ walked p s from
  unfolding first_fault last_of_type
  walk_end h q = sym (rw q at step ∙ ap (λ (x : List Slot). record { stop = Whole; slots = x }) (each-self w h))

  pub walk-broken : (z : Walked) → r ≡ A.Broken → z ≡ stopped Length at → z ≡ walked p s from
  unfolding first_fault
  walk-broken z q ez = ez ∙ sym (rw q at step)

  module _ (x : Attribute) (q : r ≡ A.Attribute x) where
    inside : Bounded s at (A.Attribute x)
    inside = rw (sym e ∙ q) at (bounded s at)

    pub walk-less : length s - x.next < length s - at
    walk-less = let i = inside in omega arith

    module _ (m : Rule) (l : List ℕ) (v : Verdict) (em : m ≡ rule_of p x.kind) (el : l ≡ part_of s x.start x.end) (ev : v ≡ judged m x.bits l) where
      judged-step : walked p s from ≡ walked_on p s w (attribute x.kind x.bits x.start x.end (attributes s x.next))
      judged-step = rw q at step

      verdict : judged (rule_of p x.kind) x.bits (part_of s x.start x.end) ≡ v
      verdict = sym (ev ∙ ap (λ (y : Rule). judged y x.bits l) em ∙ ap (λ (y : List ℕ). judged (rule_of p x.kind) x.bits y) el)

      place : x.start - 4 ≡ at
      place = let i = inside in omega arith

      pub walk-wrong : (f : Fault) (y : Walked) → v ≡ Wrong f → y ≡ stopped f at → y ≡ walked p s from
      unfolding first_fault
      walk-wrong f y h ey = ey ∙ sym (judged-step ∙ rw (verdict, h, place))

      pub walk-kind : length p ≡ 8 → v ≡ Right → x.kind < 8
      unfolding judged
      walk-kind l8 h = ⊎_elim (λ i. i) (λ g. absurd (unlisted (rule-past p x.kind l8 g))) (lt-or-ge x.kind 8)
        where
          unlisted : Unlisted ≡ rule_of p x.kind → ⊥
          unlisted u =
              let n1 : v ≡ Wrong Unknown = ev ∙ ap (λ (y : Rule). judged y x.bits l) (em ∙ sym u) in
              let c : ◌≡◌ {A = ℕ} 0 1 = cc in
              omega arith

      pub walk-right : (y : Slot) → length w ≡ 8 → length p ≡ 8 → v ≡ Right → y ≡ found x.start x.end → WalkFrom p s from (set w x.kind y) x.next
      unfolding first_fault last_of_type
      walk-right y l8 lp h ey =
          judged-step ∙ rw (verdict, h, ey)
          (ap (λ (f : ℕ → Slot). walked_to (first_fault p s (attributes s x.next)) (each_type f))
          (fun_ext (λ kind. ap (λ (y : Slot). last_of_type kind y (attributes s x.next)) (sym (set-slot w x.kind kind (found x.start x.end) (rw (← l8) at (walk-kind lp h)))))))

pub ruleset walk-laws = (walk_start, walk_end, walk-broken, walk-less, walk-wrong, walk-kind, walk-right)
