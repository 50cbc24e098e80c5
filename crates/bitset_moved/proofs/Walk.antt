-- The walk of a parent behind other bytes: the same fault, or the same slots, each place moved.
use Prim.Native.Nat.{ℕ, ◌+◌, ◌-◌, ◌≤◌, ◌<◌}
use mathlib.Core.Path.{◌≡◌, refl, sym, ap, ◌∙◌}
use mathlib.Core.List.{List, [], ◌++◌}
use mathlib.Core.Bool.{Bool, true, false, cond}
use lib.ListN.{length, get_or}
use lib.Dec.{eqb}
use native.Mathlib.Omega.{arith}
use Rattle.basics.specs.Numbers.{u32_at}
use Rattle.netlink_attributes.specs.Attributes.{part_of, Attributes, attributes}
use Rattle.netlink_attributes.specs.Attributes.Attributes.{done, broken, attribute}
use Rattle.netlink_attributes.specs.Claims.{Apart}
use Rattle.netlink_attributes.proofs.Apart.{apart}
use Rattle.netlink.specs.Policy.{rule_of, judged}
use Rattle.netlink.specs.Walk.{found, absent, on_verdict, first_fault, last_of_type, walked, slot_number}
use Rattle.netlink.specs.declared.policy.Rule.{Rule}
use Rattle.netlink.specs.declared.policy.Fault.{Fault}
use Rattle.netlink.specs.declared.policy.Fault.TheVariants as F
use Rattle.netlink.specs.declared.policy.Verdict.{Verdict}
use Rattle.netlink.specs.declared.policy.Verdict.TheVariants.{Right, Wrong}
use Rattle.netlink.specs.declared.walk.Slot.{Slot}
use Rattle.netlink.specs.declared.walk.Stop.{Stop}
use Rattle.netlink.specs.declared.walk.Stop.TheVariants.{Whole, At}
use Rattle.netlink.proofs.walk.Meaning.{stop_is, slot_is}
use Rattle.refusal.specs.Refusal.{of_fault, on_stop}
use Rattle.refusal.specs.declared.Refusal.{Refusal}
use Rattle.bitset_moved.specs.Moved.{moved}
use Rattle.bitset_moved.proofs.Attributes.{moved_all, part_moved, attributes-moved}

abbrev pub moved_stop : ℕ → Stop → Stop
moved_stop by Whole = Whole
moved_stop by (At fault at) = At fault (by + at)

-- a slot of a parent of so many bytes, and the same slot with its places moved: both absent, or both present behind an attribute's header
pub data Shift (by size : ℕ) : Slot → Slot → Type 0 where
  none : Shift by size absent absent
  some : (a e : ℕ) → 4 ≤ a → a ≤ e → e ≤ size → Shift by size (found a e) (found (by + a) (by + e))

pub there : {by size : ℕ} {x y : Slot} → Shift by size x y → y.present ≡ x.present
there none = refl
there (some a e l u h) = refl

-- the place of an attribute whose payload starts behind its header
pub place : (by a : ℕ) → 4 ≤ a → by + a - 4 ≡ by + (a - 4)
place by a l = omega arith

module _ (pre c : List ℕ) where
  pub number-moved : {x y : Slot} → Shift (length pre) (length c) x y → slot_number (pre ++ c) y ≡ slot_number c x
  unfolding slot_number
  number-moved none = refl
  number-moved (some a e l u h) = ap (λ (s : List ℕ). u32_at s 0) (part_moved pre c a e)

  module _ (p : List Rule) where
    verdict-moved : (v : Verdict) (a : ℕ) (rest rest' : Stop) → 4 ≤ a → rest' ≡ moved_stop (length pre) rest
        → on_verdict v (length pre + a - 4) rest' ≡ moved_stop (length pre) (on_verdict v (a - 4) rest)
    verdict-moved Right a rest rest' l q = q
    verdict-moved (Wrong f) a rest rest' l q = ap (At f) (place (length pre) a l)

    fault-moved : (at : ℕ) (xs : Attributes) → Apart c at xs → first_fault p (pre ++ c) (moved_all (length pre) xs) ≡ moved_stop (length pre) (first_fault p c xs)
    unfolding first_fault
    fault-moved at done q = refl
    fault-moved at (broken b) q = refl
    fault-moved at (attribute k b a e rest) q =
        let h = q.0 in
        rw (part_moved pre c a e)
        (verdict-moved (judged (rule_of p k) b (part_of c a e)) a (first_fault p c rest) _ (omega arith)
        (fault-moved q.5.0 rest q.5.3))

  last-moved : (kind at : ℕ) {x y : Slot} (xs : Attributes) → Apart c at xs → Shift (length pre) (length c) x y
      → Shift (length pre) (length c) (last_of_type kind x xs) (last_of_type kind y (moved_all (length pre) xs))
  unfolding last_of_type
  last-moved kind at done q r = r
  last-moved kind at (broken b) q r = r
  last-moved kind at {x} {y} (attribute k b a e rest) q r =
      let h = q.0 in
      let i = q.2 in
      let j = q.3 in
      last-moved kind q.5.0 rest q.5.3 (pick (eqb k kind) (some a e (omega arith) i j))
    where
      pick : (t : Bool) → Shift (length pre) (length c) (found a e) (found (length pre + a) (length pre + e))
          → Shift (length pre) (length c) (cond t (found a e) x) (cond t (found (length pre + a) (length pre + e)) y)
      pick true s = s
      pick false s = r

  -- the walk's stop, and each of its slots
  module _ (p : List Rule) (from : ℕ) where
    pub stop-moved : (walked p (pre ++ c) (length pre + from)).stop ≡ moved_stop (length pre) (walked p c from).stop
    stop-moved =
        stop_is p (pre ++ c) (length pre + from)
        ∙ ap (first_fault p (pre ++ c)) (attributes-moved pre c from)
        ∙ fault-moved p from (attributes c from) (apart c from)
        ∙ sym (ap (moved_stop (length pre)) (stop_is p c from))

    pub slot-moved : (walked p c from).stop ≡ Whole → (kind : ℕ) → kind < 8
        → Shift (length pre) (length c) (get_or (walked p c from).slots kind absent) (get_or (walked p (pre ++ c) (length pre + from)).slots kind absent)
    slot-moved w kind l =
        rw (slot_is p c from w kind l, slot_is p (pre ++ c) (length pre + from) (stop-moved ∙ ap (moved_stop (length pre)) w) kind l, attributes-moved pre c from)
        (last-moved kind from (attributes c from) (apart c from) none)

-- so a slot of a parent that is right as a whole stands inside it
pub slot-inside : (c : List ℕ) (p : List Rule) (from : ℕ) → (walked p c from).stop ≡ Whole → (kind : ℕ) → kind < 8
    → ((get_or (walked p c from).slots kind absent).start ≤ (get_or (walked p c from).slots kind absent).end)
    × ((get_or (walked p c from).slots kind absent).end ≤ length c)
slot-inside c p from w kind l = inside (slot-moved [] c p from w kind l)
  where
    inside : {by size : ℕ} {x y : Slot} → Shift by size x y → (x.start ≤ x.end) × (x.end ≤ size)
    inside none = (omega arith, omega arith)
    inside (some a e k u h) = (u, h)

-- the refusal of a walk's fault, or what comes after
fault-is : (by : ℕ) (fault : Fault) (at : ℕ) → of_fault fault (by + at) ≡ moved by (of_fault fault at)
fault-is by F.Length at = refl
fault-is by F.Unknown at = refl
fault-is by F.Payload at = refl

module _ {A : Type 0} (by : ℕ) (move : A → A) (f : Refusal → A) (each : (r : Refusal) → f (moved by r) ≡ move (f r)) where
  pub on-stop : (t t' : Stop) (rest rest' : A) → t' ≡ moved_stop by t → (t ≡ Whole → rest' ≡ move rest) → on_stop t' f rest' ≡ move (on_stop t f rest)
  on-stop Whole t' rest rest' e q = rw e (q refl)
  on-stop (At fault at) t' rest rest' e q = rw e (ap f (fault-is by fault at) ∙ each (of_fault fault at))
