-- Laws of the header level that may name no port: one for each return.
use Prim.Native.Nat.{ℕ}
use mathlib.Core.Path.{◌≡◌, sym, ap, ◌∙◌}
use mathlib.Core.List.{List}
use Rattle.netlink_attributes.specs.Attributes.{part_of}
use Rattle.netlink.specs.Walk.{walked}
use Rattle.netlink.specs.declared.policy.Fault.{Fault}
use Rattle.netlink.specs.declared.policy.Rule.{Rule}
use Rattle.netlink.specs.declared.walk.Slot.{Slot}
use Rattle.netlink.specs.declared.walk.Stop.{Stop}
use Rattle.netlink.specs.declared.walk.Stop.TheVariants as S
use Rattle.netlink.specs.declared.walk.Walked.{Walked}
use Rattle.refusal.specs.Refusal.{of_fault, on_stop}
use Rattle.refusal.specs.declared.Refusal.{Refusal}
use Rattle.request.specs.Policies.{header_policy}
use Rattle.request.specs.Parts.{header_parts}
use Rattle.request.specs.Header.{flags_judged}
use Rattle.request.specs.Optional.{optional_header_of}
use Rattle.request.specs.declared.parts.HeaderParts.{HeaderParts}
use Rattle.std.specs.Prelude.{Result, Err}
use Rattle.request.specs.declared.header.Header.{Header}

module _ (m : List ℕ) (header : Slot) (p : List Rule) (ep : p ≡ header_policy) (c : List ℕ) (ec : c ≡ part_of m 0 header.end)
    (w : Walked) (ew : w ≡ walked p c header.start) where
  rest : Walked → Result Header Refusal
  rest x = flags_judged m (header_parts x.slots)

  by-walk : optional_header_of m header ≡ on_stop w.stop Err (rest w)
  unfolding optional_header_of rest
  by-walk =
      sym (ap (λ (x : Walked). on_stop x.stop Err (rest x))
      (ew ∙ ap (λ (x : List Rule). walked x c header.start) ep ∙ ap (λ (x : List ℕ). walked header_policy x header.start) ec))

  pub header-fault : (f : Fault) (at : ℕ) (y : Refusal) → w.stop ≡ S.At f at → y ≡ of_fault f at → Err y ≡ optional_header_of m header
  header-fault f at y q ey = ap Err ey ∙ sym (by-walk ∙ ap (λ (x : Stop). on_stop x Err (rest w)) q)

  pub header-whole : (parts : HeaderParts) (r : Result Header Refusal) → w.stop ≡ S.Whole → parts ≡ header_parts w.slots → r ≡ flags_judged m parts
      → r ≡ optional_header_of m header
  unfolding rest
  header-whole parts r q es er = er ∙ ap (flags_judged m) es ∙ sym (by-walk ∙ ap (λ (x : Stop). on_stop x Err (rest w)) q)

pub ruleset header-laws = (header-fault, header-whole)
