-- Law "apart": the attributes of a parent lie inside it, in order, without overlap and with only padding between, and each payload is the part
-- where it stands.
use Prim.Native.Nat.{ℕ, ◌+◌, ◌-◌, ◌<◌}
use mathlib.Core.Path.{◌≡◌, refl, sym, ap, ◌∙◌}
use mathlib.Core.List.{List}
use lib.ListN.{length, take, drop}
use native.Mathlib.Omega.{arith}
use Rattle.basics.specs.Numbers.{u16_at}
use Rattle.netlink_attributes.specs.Attributes.{attribute_at, Attributes, on_read, attributes}
use Rattle.netlink_attributes.specs.Attributes.Attributes.{done, broken, attribute}
use Rattle.netlink_attributes.specs.Claims.{Apart}
use Rattle.netlink_attributes.specs.declared.AttributeRead.{AttributeRead}
use Rattle.netlink_attributes.specs.declared.AttributeRead.TheVariants as R
use Rattle.netlink_attributes.proofs.Laws.{Bounded, bounded, attributes-step, part_in}

-- by what is read at the place
from : (s : List ℕ) (at : ℕ) (r : AttributeRead) → r ≡ attribute_at s at → (xs : Attributes) → xs ≡ on_read r at (attributes s) → Apart s at xs
from s at R.End e done q = rw (← e) at (bounded s at)
from s at R.Broken e done q = absurd (let z : ◌≡◌ {A = ℕ} 0 1 = cc in omega arith)
from s at (R.Attribute x) e done q = absurd (let z : ◌≡◌ {A = ℕ} 0 1 = cc in omega arith)
from s at R.End e (broken p) q = absurd (let z : ◌≡◌ {A = ℕ} 0 1 = cc in omega arith)
from s at R.Broken e (broken p) q =
    let b : at < length s = rw (← e) at (bounded s at) in
    let i : p ≡ at = cc in
    (i, omega arith)
from s at (R.Attribute x) e (broken p) q = absurd (let c : ◌≡◌ {A = ℕ} 0 1 = cc in omega arith)
from s at R.End e (attribute k b a z rest) q = absurd (let c : ◌≡◌ {A = ℕ} 0 1 = cc in omega arith)
from s at R.Broken e (attribute k b a z rest) q = absurd (let c : ◌≡◌ {A = ℕ} 0 1 = cc in omega arith)
from s at (R.Attribute x) e (attribute k b a z rest) q =
    let bd : Bounded s at (R.Attribute x) = rw (← e) at (bounded s at) in
    let ea : a ≡ x.start = cc in
    let ez : z ≡ x.end = cc in
    let er : rest ≡ attributes s x.next = cc in
    let start : a ≡ at + 4 = omega arith in
    let end : z ≡ at + u16_at s at = omega arith in
    let len : z - a ≡ u16_at s at - 4 = omega arith in (
      start,
      end,
      omega arith,
      omega arith,
      sym (part_in s a z (omega arith) (omega arith)) ∙ ap (λ (i : ℕ). take i (drop a s)) len ∙ ap (λ (i : ℕ). take (u16_at s at - 4) (drop i s)) start,
      (x.next, omega arith, omega arith, from s x.next (attribute_at s x.next) refl rest (er ∙ attributes-step s x.next), omega arith),
    )

pub apart : (s : List ℕ) (at : ℕ) → Apart s at (attributes s at)
apart s at = from s at (attribute_at s at) refl (attributes s at) (attributes-step s at)
