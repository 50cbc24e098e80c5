-- Document 01, "Sizes on the wire" (the last of several equal types counts, every occurrence is checked) and the order of 10 to 12: the walk
-- of a parent under a policy.
use Rattle.std.specs.Prelude.{ℕ, ◌-◌, List, [], ◌∷◌, true, false, cond, replicate, eqb}
use Rattle.basics.specs.Numbers.{u32_at}
use Rattle.netlink_attributes.specs.Attributes.{Attributes, attributes, part_of}
use Rattle.netlink_attributes.specs.Attributes.Attributes.{done, broken, attribute}
use Rattle.netlink.specs.Policy.{rule_of, judged}
use Rattle.netlink.specs.declared.policy.Rule.{Rule}
use Rattle.netlink.specs.declared.policy.Fault.{Fault}
use Rattle.netlink.specs.declared.policy.Fault.TheVariants.{Length}
use Rattle.netlink.specs.declared.policy.Verdict.{Verdict}
use Rattle.netlink.specs.declared.policy.Verdict.TheVariants.{Right, Wrong}
use Rattle.netlink.specs.declared.walk.Slot.{Slot}
use Rattle.netlink.specs.declared.walk.Stop.{Stop}
use Rattle.netlink.specs.declared.walk.Stop.TheVariants.{Whole, At}
use Rattle.netlink.specs.declared.walk.Walked.{Walked}

-- the slot of an attribute whose payload stands from start to end
abbrev pub found : ℕ → ℕ → Slot
found start end = record { present = true; start = start; end = end }

-- the slot of a type which no attribute has
abbrev pub absent : Slot
absent = record { present = false; start = 0; end = 0 }

-- no type has an attribute
abbrev pub absent_all : List Slot
absent_all = replicate 8 absent

-- the fault of an attribute at its place, or what comes after it
abbrev pub on_verdict : Verdict → ℕ → Stop → Stop
on_verdict Right at rest = rest
on_verdict (Wrong fault) at rest = At fault at

-- the first fault in order: one attribute is judged before the next is looked at
unfoldable pub first_fault : List Rule → List ℕ → Attributes → Stop
first_fault policy s done = Whole
first_fault policy s (broken at) = At Length at
first_fault policy s (attribute k b a e rest) =
    on_verdict (judged (rule_of policy k) b (part_of s a e)) (a - 4) (first_fault policy s rest)

-- the last attribute of a type, or the slot given where there is none
unfoldable pub last_of_type : ℕ → Slot → Attributes → Slot
last_of_type kind slot done = slot
last_of_type kind slot (broken at) = slot
last_of_type kind slot (attribute k b a e rest) = last_of_type kind (cond (eqb k kind) (found a e) slot) rest

-- something for each type below 8
abbrev pub each_type : (ℕ → Slot) → List Slot
each_type f = f 0 ∷ f 1 ∷ f 2 ∷ f 3 ∷ f 4 ∷ f 5 ∷ f 6 ∷ f 7 ∷ []

-- a walk that stops at a fault tells no slot
abbrev pub stopped : Fault → ℕ → Walked
stopped fault at = record { stop = At fault at; slots = absent_all }

-- the slots of a parent that is right as a whole, or its first fault
abbrev pub walked_to : Stop → List Slot → Walked
walked_to Whole slots = record { stop = Whole; slots = slots }
walked_to (At fault at) slots = stopped fault at

-- the walk of the parent whose contents are the bytes of s from a position on: its first fault, or for each type the last attribute
unfoldable pub walked : List Rule → List ℕ → ℕ → Walked
walked policy s from =
    walked_to (first_fault policy s (attributes s from)) (each_type (λ kind. last_of_type kind absent (attributes s from)))

-- the number of 32 bits in a slot, 0 where the slot is absent
unfoldable pub slot_number : List ℕ → Slot → ℕ
slot_number s slot = cond slot.present (u32_at (part_of s slot.start slot.end) 0) 0
