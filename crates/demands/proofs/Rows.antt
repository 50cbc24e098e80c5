-- What holds of every refusal in a list of checks, and so of the first one; the rows that a bitset can meet.
--     first-every     what holds of every refusal holds of the first
--     bitset-rows     the rows of a bitset's checks have numbers from 10 to 13 or from 18 to 23
use Prim.Native.Nat.{ℕ, ◌-◌}
use mathlib.Core.List.{List, [], ◌∷◌, ◌++◌}
use mathlib.Core.Bool.{Bool, true, false, cond}
use native.Mathlib.Omega.{arith}
use Rattle.netlink_attributes.specs.Attributes.{Attributes}
use Rattle.netlink_attributes.specs.Attributes.Attributes.{done, broken, attribute}
use Rattle.netlink.specs.declared.policy.Fault.{Fault}
use Rattle.netlink.specs.declared.policy.Fault.TheVariants as W
use Rattle.netlink.specs.declared.walk.Stop.{Stop}
use Rattle.netlink.specs.declared.walk.Stop.TheVariants.{Whole, At}
use Rattle.bitset_form.specs.declared.parts.BitsetParts.{BitsetParts}
use Rattle.refusal.specs.Refusal.{number_of, of_fault}
use Rattle.refusal.specs.declared.Refusal.{Refusal}
use Rattle.demands.specs.Check.{Check, refuse_if, walks, FirstIs}
use Rattle.demands.specs.Check.Check.{passes, refuses, ends, skips}
use Rattle.demands.specs.Check.FirstIs.{here, later}
use Rattle.demands.specs.Bitset.{mixed_checks, compact_checks, part_checks, bit_checks, each_bit, list_checks, form_checks, bitset_checks}
use Rattle.demands.specs.NormalChecks.{BitsetNumber}
use Rattle.demands.specs.NormalChecks.BitsetNumber.{walking, judging}

-- a list of which every refusal is so
pub data Every (P : Refusal → Type 0) : List Check → Type 0 where
  nothing : Every P []
  pass : {checks : List Check} → Every P checks → Every P (passes ∷ checks)
  end : {checks : List Check} → Every P checks → Every P (ends ∷ checks)
  skip : {checks : List Check} → Every P checks → Every P (skips ∷ checks)
  refuse : (why : Refusal) {checks : List Check} → P why → Every P checks → Every P (refuses why ∷ checks)

module _ (P : Refusal → Type 0) where
  pub first-every : (why : Refusal) {checks : List Check} → FirstIs why checks → Every P checks → P why
  first-every why here (refuse w l rest) = l
  first-every why (later f) (pass rest) = first-every why f rest

  pub row : (t : Bool) (why : Refusal) {checks : List Check} → P why → Every P checks → Every P (refuse_if t why ∷ checks)
  unfolding refuse_if
  row true why l rest = refuse why l rest
  row false why l rest = pass rest

  pub walk : (stop : Stop) {checks : List Check} → ((fault : Fault) (at : ℕ) → P (of_fault fault at)) → Every P checks → Every P (walks stop ∷ checks)
  unfolding walks
  walk Whole l rest = pass rest
  walk (At fault at) l rest = refuse (of_fault fault at) (l fault at) rest

  append : {xs ys : List Check} → Every P xs → Every P ys → Every P (xs ++ ys)
  append nothing l = l
  append (pass rest) l = pass (append rest l)
  append (end rest) l = end (append rest l)
  append (skip rest) l = skip (append rest l)
  append (refuse why n rest) l = refuse why n (append rest l)

  pub choice : (t : Bool) (xs ys : List Check) → Every P xs → Every P ys → Every P (cond t xs ys)
  choice true xs ys a b = a
  choice false xs ys a b = b

-- what holds of more refusals
pub weaker : (P Q : Refusal → Type 0) → ((why : Refusal) → P why → Q why) → {checks : List Check} → Every P checks → Every Q checks
weaker P Q f nothing = nothing
weaker P Q f (pass rest) = pass (weaker P Q f rest)
weaker P Q f (end rest) = end (weaker P Q f rest)
weaker P Q f (skip rest) = skip (weaker P Q f rest)
weaker P Q f (refuse why n rest) = refuse why (f why n) (weaker P Q f rest)

-- the refusals that a bitset can meet
abbrev pub OfBitset : Refusal → Type 0
OfBitset why = BitsetNumber (number_of why)

fault-row : (fault : Fault) (at : ℕ) → OfBitset (of_fault fault at)
fault-row W.Length at = walking (omega arith) (omega arith)
fault-row W.Unknown at = walking (omega arith) (omega arith)
fault-row W.Payload at = walking (omega arith) (omega arith)

mixed-rows : (parts : BitsetParts) → Every OfBitset (mixed_checks parts)
unfolding mixed_checks
mixed-rows parts =
    row OfBitset _ _ (judging (omega arith) (omega arith))
    (row OfBitset _ _ (judging (omega arith) (omega arith)) (row OfBitset _ _ (judging (omega arith) (omega arith)) nothing))

compact-rows : (s : List ℕ) (nest n : ℕ) (parts : BitsetParts) → Every OfBitset (compact_checks s nest n parts)
unfolding compact_checks
compact-rows s nest n parts =
    row OfBitset _ _ (walking (omega arith) (omega arith))
    (row OfBitset _ _ (walking (omega arith) (omega arith))
    (row OfBitset _ _ (walking (omega arith) (omega arith))
    (row OfBitset _ _ (judging (omega arith) (omega arith))
    (row OfBitset _ _ (judging (omega arith) (omega arith))
    (row OfBitset _ _ (judging (omega arith) (omega arith)) (row OfBitset _ _ (judging (omega arith) (omega arith)) nothing))))))

each_rows : (s names : List ℕ) (xs : Attributes) → Every OfBitset (each_bit s names xs)
unfolding each_bit bit_checks part_checks
each_rows s names done = nothing
each_rows s names (broken at) = nothing
each_rows s names (attribute k b a e rest) =
    walk OfBitset _ fault-row
    (row OfBitset _ _ (judging (omega arith) (omega arith))
    (row OfBitset _ _ (judging (omega arith) (omega arith))
    (row OfBitset _ _ (judging (omega arith) (omega arith)) (row OfBitset _ _ (judging (omega arith) (omega arith)) (each_rows s names rest)))))

list-rows : (s names : List ℕ) (parts : BitsetParts) → Every OfBitset (list_checks s names parts)
unfolding list_checks
list-rows s names parts = walk OfBitset _ fault-row (each_rows _ names _)

form-rows : (s : List ℕ) (nest : ℕ) (names : List ℕ) (parts : BitsetParts) → Every OfBitset (form_checks s nest names parts)
unfolding form_checks
form-rows s nest names parts =
    append OfBitset (mixed-rows parts) (choice OfBitset parts.bits.present _ _ (list-rows s names parts) (compact-rows s nest _ parts))

pub bitset-rows : (s : List ℕ) (from : ℕ) (names : List ℕ) → Every OfBitset (bitset_checks s from names)
unfolding bitset_checks
bitset-rows s from names = walk OfBitset _ fault-row (form-rows s (from - 4) names _)
