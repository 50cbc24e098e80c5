-- A bitset is decided on by its form.
use Rattle.std.specs.Prelude.{Result, Ok, Err}
use Prim.Native.Nat.{ℕ, ◌-◌}
use mathlib.Core.Path.{◌≡◌, sym, ◌∙◌}
use mathlib.Core.List.{List}
use native.Mathlib.Omega.{arith}
use Rattle.entries.specs.Entry.{count}
use Rattle.netlink_attributes.specs.Attributes.{part_of}
use Rattle.netlink.specs.declared.walk.Slot.{Slot}
use Rattle.refusal.specs.declared.Refusal.{Refusal}
use Rattle.bitset_form.specs.Bitset.{Reading}
use Rattle.bitset_form.specs.Form.{judged_as}
use Rattle.bitset_form.specs.Bitset.Reading.{refused, accepted}
use Rattle.bitset_form.specs.declared.Form.{Form}
use Rattle.bitset.specs.Judge.{bitset_reading}
use Rattle.decision.specs.Decision.{reading_decision, bitset_decision}
use Rattle.decision.specs.declared.Plan.TheVariants as P

reading-refused : (x : Reading) (n position nest : ℕ) (why : Refusal) → judged_as n x ≡ Err why → Err why ≡ reading_decision x n position nest
unfolding judged_as
reading-refused (refused r) n position nest why e = cc
reading-refused (accepted b) n position nest why e = absurd (let z : ◌≡◌ {A = ℕ} 0 1 = cc in omega arith)

reading-accepted : (x : Reading) (n position nest : ℕ) (f : Form) → judged_as n x ≡ Ok f → Ok (P.Set position nest f) ≡ reading_decision x n position nest
unfolding judged_as
reading-accepted (refused r) n position nest f e = absurd (let z : ◌≡◌ {A = ℕ} 0 1 = cc in omega arith)
reading-accepted (accepted b) n position nest f e = cc

module _ (m : List ℕ) (bitset : Slot) (names : List ℕ) (position : ℕ) (p : List ℕ) (ep : p ≡ part_of m 0 bitset.end) (j : Result Form Refusal)
    (ej : j ≡ judged_as (count names) (bitset_reading p bitset.start names)) where
  by-reading : bitset_decision m bitset names position ≡ reading_decision (bitset_reading p bitset.start names) (count names) position (bitset.start - 4)
  unfolding bitset_decision
  by-reading = rw (← ep)

  pub bitset-refused : (why : Refusal) → j ≡ Err why → Err why ≡ bitset_decision m bitset names position
  bitset-refused why q =
      reading-refused (bitset_reading p bitset.start names) (count names) position (bitset.start - 4) why (sym ej ∙ q) ∙ sym by-reading

  pub bitset-accepted : (f : Form) (nest : ℕ) → j ≡ Ok f → nest ≡ bitset.start - 4 → Ok (P.Set position nest f) ≡ bitset_decision m bitset names position
  bitset-accepted f nest q en =
      rw en (reading-accepted (bitset_reading p bitset.start names) (count names) position (bitset.start - 4) f (sym ej ∙ q)) ∙ sym by-reading
