-- Laws of the top level of a STRSET_GET: one for each return.
use Prim.Native.Nat.{ℕ}
use mathlib.Core.Path.{◌≡◌, sym, ap, ◌∙◌}
use mathlib.Core.List.{List}
use mathlib.Core.Bool.{true, false, not}
use lib.ListN.{get_or}
use Rattle.basics.proofs.Truth.{cond-true, cond-false}
use Rattle.netlink.specs.Walk.{absent, walked}
use Rattle.netlink.specs.declared.policy.Fault.{Fault}
use Rattle.netlink.specs.declared.policy.Rule.{Rule}
use Rattle.netlink.specs.declared.walk.Slot.{Slot}
use Rattle.netlink.specs.declared.walk.Stop.{Stop}
use Rattle.netlink.specs.declared.walk.Stop.TheVariants as S
use Rattle.netlink.specs.declared.walk.Walked.{Walked}
use Rattle.refusal.specs.Refusal.{of_fault, on_stop}
use Rattle.refusal.specs.declared.Refusal.{Refusal}
use Rattle.refusal.specs.declared.Refusal.TheVariants.{MissingTop}
use Rattle.strset_request.specs.Policies.{strset_policy}
use Rattle.strset_request.specs.Top.{strset_parts, with_header, strset_top_of}
use Rattle.strset_request.specs.declared.top.StrsetParts.{StrsetParts}
use Rattle.std.specs.Prelude.{Result, Ok, Err}

pub parts_are : (slots : List Slot) (header sets counts : Slot) → header ≡ get_or slots 1 absent → sets ≡ get_or slots 2 absent → counts ≡ get_or slots 3 absent
    → record { header = header; sets = sets; counts = counts } ≡ strset_parts slots
unfolding strset_parts
parts_are slots header sets counts eh es ec = cc

module _ (parts : StrsetParts) where
  pub header-none : not parts.header.present ≡ true → Err (MissingTop 1) ≡ with_header parts
  unfolding with_header
  header-none h = sym (cond-true (not parts.header.present) _ _ h)

  pub header-some : not parts.header.present ≡ false → Ok parts ≡ with_header parts
  unfolding with_header
  header-some h = sym (cond-false (not parts.header.present) _ _ h)

pub ruleset header-laws = (header-none, header-some)

module _ (m : List ℕ) (p : List Rule) (ep : p ≡ strset_policy) (w : Walked) (ew : w ≡ walked p m 20) where
  by-walk : strset_top_of m ≡ on_stop w.stop Err (with_header (strset_parts w.slots))
  unfolding strset_top_of
  by-walk = sym (ap (λ (x : Walked). on_stop x.stop Err (with_header (strset_parts x.slots))) (ew ∙ ap (λ (x : List Rule). walked x m 20) ep))

  pub top-fault : (f : Fault) (at : ℕ) (y : Refusal) → w.stop ≡ S.At f at → y ≡ of_fault f at → Err y ≡ strset_top_of m
  top-fault f at y q ey = ap Err ey ∙ sym (by-walk ∙ ap (λ (x : Stop). on_stop x Err (with_header (strset_parts w.slots))) q)

  pub top-whole : (parts : StrsetParts) (r : Result StrsetParts Refusal) → w.stop ≡ S.Whole → parts ≡ strset_parts w.slots → r ≡ with_header parts → r ≡ strset_top_of m
  top-whole parts r q es e =
      e ∙ ap with_header es ∙ sym (by-walk ∙ ap (λ (x : Stop). on_stop x Err (with_header (strset_parts w.slots))) q)

pub ruleset top_laws = (top-fault, top-whole)
