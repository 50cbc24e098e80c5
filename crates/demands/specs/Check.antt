-- Document 01, "What a call says back": "Checks run in this order ..; the first fault answers".
use Rattle.std.specs.Prelude.{List, [], ◌∷◌, Bool, cond}
use Rattle.netlink.specs.declared.walk.Slot.{Slot}
use Rattle.netlink.specs.declared.walk.Stop.{Stop}
use Rattle.netlink.specs.declared.walk.Stop.TheVariants.{Whole, At}
use Rattle.netlink.specs.declared.walk.Walked.{Walked}
use Rattle.refusal.specs.Refusal.{of_fault}
use Rattle.refusal.specs.declared.Refusal.{Refusal}
use Rattle.response.specs.declared.Kind.{Kind}
use Rattle.response.specs.declared.Kind.TheVariants.{End, Skipped, Refused}

-- what one check comes to: it passes, it refuses, or the call is over as the end or as skipped
pub data Check : Type 0 where
  passes : Check
  refuses : Refusal → Check
  ends : Check
  skips : Check

-- a row of the table: the refusal, where it applies
unfoldable pub refuse_if : Bool → Refusal → Check
refuse_if applies why = cond applies (refuses why) passes

-- 10, 11 and 12: the first fault of a parent that is walked whole
unfoldable pub walks : Stop → Check
walks Whole = passes
walks (At fault at) = refuses (of_fault fault at)

-- a parent walked whole, then the checks of what its slots hold
abbrev pub walk_checks : Walked → (List Slot → List Check) → List Check
walk_checks w rest = walks w.stop ∷ rest w.slots

-- the kind of the first check that does not pass, else the kind given
unfoldable pub first_kind : Kind → List Check → Kind
first_kind kind [] = kind
first_kind kind (passes ∷ checks) = first_kind kind checks
first_kind kind (refuses why ∷ checks) = Refused why
first_kind kind (ends ∷ checks) = End
first_kind kind (skips ∷ checks) = Skipped

-- no check refuses, ends or skips
pub data AllPass : List Check → Type 0 where
  none : AllPass []
  next : {checks : List Check} → AllPass checks → AllPass (passes ∷ checks)

-- a check refuses, and all checks before that one pass
pub data FirstIs (why : Refusal) : List Check → Type 0 where
  here : {checks : List Check} → FirstIs why (refuses why ∷ checks)
  later : {checks : List Check} → FirstIs why checks → FirstIs why (passes ∷ checks)
