-- Laws of the top level: one for each return.
use Prim.Native.Nat.{ℕ}
use mathlib.Core.Path.{◌≡◌, refl, sym, ap, ◌∙◌}
use mathlib.Core.List.{List}
use mathlib.Core.Bool.{Bool, true, false, ◌&&◌, not, cond}
use borrow.Author.Tests.{not-true, not-false}
use Rattle.netlink.specs.Walk.{walked}
use Rattle.netlink.specs.declared.policy.Fault.{Fault}
use Rattle.netlink.specs.declared.policy.Rule.{Rule}
use Rattle.netlink.specs.declared.walk.Stop.{Stop}
use Rattle.netlink.specs.declared.walk.Stop.TheVariants as S
use Rattle.netlink.specs.declared.walk.Walked.{Walked}
use Rattle.refusal.specs.Refusal.{of_fault}
use Rattle.refusal.specs.declared.Refusal.{Refusal}
use Rattle.refusal.specs.declared.Refusal.TheVariants.{MissingTop}
use Rattle.request.specs.Policies.{top_policy}
use Rattle.refusal.specs.Refusal.{on_stop}
use Rattle.request.specs.Parts.{top_parts}
use Rattle.request.specs.Top.{nests_of, top_of}
use Rattle.request.specs.declared.parts.TopParts.{TopParts}
use Rattle.std.specs.Prelude.{Result, Ok, Err}

-- what the top level lacks, by which nests stand
lacking : Bool → Bool → Bool → Result TopParts Refusal → Result TopParts Refusal
lacking change header bitset whole =
    cond (not header) (Err (MissingTop 1)) (cond (change && not bitset) (Err (MissingTop 2)) whole)

module _ (change : Bool) (parts : TopParts) where
  by : nests_of change parts ≡ lacking change parts.header.present parts.bitset.present (Ok parts)
  unfolding nests_of lacking
  by = refl

  pub nests-header : not parts.header.present ≡ true → Err (MissingTop 1) ≡ nests_of change parts
  unfolding lacking
  nests-header h = sym (by ∙ go parts.header.present (not-true parts.header.present h))
    where
      go : (x : Bool) → x ≡ false → lacking change x parts.bitset.present (Ok parts) ≡ Err (MissingTop 1)
      go x p = rw p

  module _ (h : not parts.header.present ≡ false) where
    pub nests-get : change ≡ false → Ok parts ≡ nests_of change parts
    unfolding lacking
    nests-get c = sym (by ∙ go change parts.header.present c (not-false parts.header.present h))
      where
        go : (x y : Bool) → x ≡ false → y ≡ true → lacking x y parts.bitset.present (Ok parts) ≡ Ok parts
        go x y p q = rw (p, q)

    module _ (c : change ≡ true) where
      set-lacking : (b : Bool) → parts.bitset.present ≡ b → nests_of change parts ≡ cond (not b) (Err (MissingTop 2)) (Ok parts)
      unfolding lacking
      set-lacking b e = by ∙ go change parts.header.present parts.bitset.present c (not-false parts.header.present h) e
        where
          go : (x y z : Bool) → x ≡ true → y ≡ true → z ≡ b
              → lacking x y z (Ok parts) ≡ cond (not b) (Err (MissingTop 2)) (Ok parts)
          go x y z p q r = rw (p, q, r)

      pub nests-bitset : not parts.bitset.present ≡ true → Err (MissingTop 2) ≡ nests_of change parts
      nests-bitset b = sym (set-lacking false (not-true parts.bitset.present b))

      pub nests-set : not parts.bitset.present ≡ false → Ok parts ≡ nests_of change parts
      nests-set b = sym (set-lacking true (not-false parts.bitset.present b))

pub ruleset nests-laws = (nests-header, nests-get, nests-bitset, nests-set)

module _ (m : List ℕ) (change : Bool) (p : List Rule) (ep : p ≡ top_policy change) (w : Walked) (ew : w ≡ walked p m 20) where
  by-walk : top_of m change ≡ on_stop w.stop Err (nests_of change (top_parts w.slots))
  unfolding top_of
  by-walk = sym (ap (λ (x : Walked). on_stop x.stop Err (nests_of change (top_parts x.slots))) (ew ∙ ap (λ (x : List Rule). walked x m 20) ep))

  pub top-fault : (f : Fault) (at : ℕ) (y : Refusal) → w.stop ≡ S.At f at → y ≡ of_fault f at → Err y ≡ top_of m change
  top-fault f at y q ey = ap Err ey ∙ sym (by-walk ∙ ap (λ (x : Stop). on_stop x Err (nests_of change (top_parts w.slots))) q)

  pub top-whole : (parts : TopParts) (r : Result TopParts Refusal) → w.stop ≡ S.Whole → parts ≡ top_parts w.slots → r ≡ nests_of change parts → r ≡ top_of m change
  top-whole parts r q es e =
      e ∙ ap (nests_of change) es ∙ sym (by-walk ∙ ap (λ (x : Stop). on_stop x Err (nests_of change (top_parts w.slots))) q)

pub ruleset top_laws = (top-fault, top-whole)
