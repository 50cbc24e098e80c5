-- 16 and 17 are the first rows that apply where a header names a port, whatever comes of the port that is found.
use Prim.Native.Nat.{ℕ, ◌-◌}
use mathlib.Core.Path.{◌≡◌, refl, ◌∙◌}
use mathlib.Core.List.{List, ◌∷◌}
use mathlib.Core.Bool.{Bool, true, false, ◌&&◌, ◌||◌, not, cond}
use Rattle.basics.proofs.Truth.{clash}
use Rattle.netlink_attributes.specs.Attributes.{part_of}
use Rattle.netlink.specs.Walk.{slot_number}
use Rattle.netlink.specs.declared.walk.Slot.{Slot}
use Rattle.refusal.specs.declared.Refusal.{Refusal}
use Rattle.refusal.specs.declared.Refusal.TheVariants as R
use Rattle.roll.specs.Find.{found_by_index, found_by_name}
use Rattle.request.specs.Port.{other_name, port_by_index, port_by_name}
use Rattle.request.specs.declared.parts.HeaderParts.{HeaderParts}
use Rattle.response.specs.declared.Kind.{Kind}
use Rattle.response.specs.declared.Kind.TheVariants.{Refused}
use Rattle.demands.specs.Check.{Check, refuse_if, first_kind}
use Rattle.demands.specs.PortChecks.{no_port, named_otherwise}
use Rattle.demands.proofs.First.{step, pass, fault}
use Rattle.std.specs.Prelude.{Option, Some, None, Result, Ok, Err, ok_or}
use Rattle.basics.specs.Results.{and_then}

module _ (m roll : List ℕ) (header : Slot) (parts : HeaderParts) (last : Kind) (targeted : Result ℕ Refusal → Kind) (rest : List Check)
    (refused-by : (why : Refusal) → targeted (Err why) ≡ Refused why) (port-first : (p : ℕ) → targeted (Ok p) ≡ first_kind last rest) where
  index-first : (found : Option ℕ)
      → targeted
      (and_then (ok_or found (R.UnknownPort (parts.index.start - 4)))
      (λ k. cond (other_name m parts.name roll k) (Err (R.OtherName (header.start - 4))) (Ok k)))
      ≡ first_kind last
      (refuse_if (no_port found) (R.UnknownPort (parts.index.start - 4))
      ∷ refuse_if false (R.UnknownPort (parts.name.start - 4))
      ∷ refuse_if (named_otherwise m parts.name roll found) (R.OtherName (header.start - 4))
      ∷ rest)
  unfolding no_port named_otherwise other_name
  index-first None = refused-by _ ∙ fault last _ _
  index-first (Some k) =
      pass last _ _ _ (pass last _ _ _ (step targeted last (other_name m parts.name roll k) _ _ _ _ (refused-by _) (port-first k)))

  name-first : (found : Option ℕ)
      → targeted (ok_or found (R.UnknownPort (parts.name.start - 4)))
      ≡ first_kind last (refuse_if (no_port found) (R.UnknownPort (parts.name.start - 4)) ∷ refuse_if false (R.OtherName (header.start - 4)) ∷ rest)
  unfolding no_port
  name-first None = refused-by _ ∙ fault last _ _
  name-first (Some k) = pass last _ _ _ (pass last _ _ _ (port-first k))

  pub target_first : (t n : Bool) → t || n ≡ true
      → targeted (cond t (port_by_index m header parts roll) (port_by_name m parts.name roll))
      ≡ first_kind last
      (refuse_if (t && no_port (found_by_index roll (slot_number m parts.index))) (R.UnknownPort (parts.index.start - 4))
      ∷ refuse_if (not t && (n && no_port (found_by_name roll (part_of m parts.name.start parts.name.end)))) (R.UnknownPort (parts.name.start - 4))
      ∷ refuse_if (t && named_otherwise m parts.name roll (found_by_index roll (slot_number m parts.index))) (R.OtherName (header.start - 4))
      ∷ rest)
  unfolding port_by_index port_by_name
  target_first true n e = index-first (found_by_index roll (slot_number m parts.index))
  target_first false false e = absurd (clash e refl)
  target_first false true e = pass last _ _ _ (name-first (found_by_name roll (part_of m parts.name.start parts.name.end)))
