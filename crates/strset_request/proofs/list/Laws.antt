-- Laws of STRINGSETS: one for each return, and for each turn of the loop over the STRINGSETs.
use Prim.Native.Nat.{ℕ, ◌-◌, ◌<◌}
use mathlib.Core.Path.{◌≡◌, refl, sym, ap, ◌∙◌}
use mathlib.Core.List.{List}
use mathlib.Core.Bool.{Bool, true, false, cond}
use lib.ListN.{length}
use native.Mathlib.Omega.{arith}
use denote.Enum.Bare.{sameb}
use Rattle.layout.specs.contracts.Set.{the_type}
use Rattle.basics.specs.Results.{and_then}
use Rattle.basics.proofs.Truth.{cond-true, cond-false}
use Rattle.netlink_attributes.specs.Attributes.{attributes, attribute_at, on_read, part_of}
use Rattle.netlink_attributes.specs.declared.AttributeRead.{AttributeRead}
use Rattle.netlink_attributes.specs.declared.Attribute.{Attribute}
use Rattle.netlink_attributes.specs.declared.AttributeRead.TheVariants as A
use Rattle.netlink_attributes.proofs.Laws.{Bounded, bounded, attributes-step}
use Rattle.netlink.specs.Walk.{walked}
use Rattle.netlink.specs.declared.policy.Fault.{Fault}
use Rattle.netlink.specs.declared.policy.Rule.{Rule}
use Rattle.netlink.specs.declared.walk.Slot.{Slot}
use Rattle.netlink.specs.declared.walk.Stop.{Stop}
use Rattle.netlink.specs.declared.walk.Stop.TheVariants as S
use Rattle.netlink.specs.declared.walk.Walked.{Walked}
use Rattle.refusal.specs.Refusal.{of_fault, on_stop}
use Rattle.refusal.specs.declared.Refusal.{Refusal}
use Rattle.layout.specs.declared.Set.{Set}
use Rattle.layout.specs.declared.Set.TheVariants.{Debug, Flags}
use Rattle.strset_request.specs.Policies.{string_sets_policy}
use Rattle.strset_request.specs.Set.{set_reading}
use Rattle.strset_request.specs.List.{same_set, with_asked, sets_reading, nest_reading, list_reading}
use Rattle.strset_request.specs.declared.list.Sets.{Sets}
use Rattle.strset_request.specs.declared.list.Sets.TheVariants.{Nothing, One, Both}
use Rattle.std.specs.Prelude.{Result, Ok, Err}

-- the derived comparison
pub same-is : (a b : Set) (t : Bool) → t ≡ sameb the_type a b → t ≡ same_set a b
unfolding same_set
same-is Debug Debug t e = e
same-is Debug Flags t e = e
same-is Flags Debug t e = e
same-is Flags Flags t e = e

module _ (sets : Sets) (set : Set) where
  pub asked-first : sets ≡ Nothing → One set ≡ with_asked sets set
  unfolding with_asked
  asked-first q = sym (rw q)

  pub asked-both : (first : Set) → sets ≡ Both first → Both first ≡ with_asked sets set
  unfolding with_asked
  asked-both first q = sym (rw q)

  module _ (first : Set) (q : sets ≡ One first) (t : Bool) (et : t ≡ same_set first set) where
    by_one : with_asked sets set ≡ cond t (One first) (Both first)
    unfolding with_asked
    by_one = rw (q, et) refl

    pub asked-again : t ≡ true → One first ≡ with_asked sets set
    asked-again h = sym (by_one ∙ cond-true t _ _ h)

    pub asked-other : t ≡ false → Both first ≡ with_asked sets set
    asked-other h = sym (by_one ∙ cond-false t _ _ h)

pub ruleset asked-laws = (same-is, asked-first, asked-both, asked-again, asked-other)

-- The loop over the STRINGSETs: what is asked for so far, and what is left.
abbrev pub SetsFrom : List ℕ → Bool → ℕ → Sets → ℕ → Type 0
SetsFrom s named from sets at = sets_reading s named Nothing (attributes s from) ≡ sets_reading s named sets (attributes s at)

pub sets-start : (s : List ℕ) (named : Bool) (from : ℕ) (sets : Sets) → sets ≡ Nothing → SetsFrom s named from sets from
sets-start s named from sets q = sym (ap (λ (x : Sets). sets_reading s named x (attributes s from)) q)

module _ (s : List ℕ) (named : Bool) (from : ℕ) (sets : Sets) (at : ℕ) (inv : SetsFrom s named from sets at) (r : AttributeRead) (e : r ≡ attribute_at s at) where
  step : sets_reading s named Nothing (attributes s from) ≡ sets_reading s named sets (on_read r at (attributes s))
  step = inv ∙ ap (sets_reading s named sets) (attributes-step s at ∙ ap (λ (x : AttributeRead). on_read x at (attributes s)) (sym e))

  pub sets_end : r ≡ A.End → Ok sets ≡ sets_reading s named Nothing (attributes s from)
  unfolding sets_reading
  sets_end q = sym (rw q at step)

  pub sets-broken : r ≡ A.Broken → Ok sets ≡ sets_reading s named Nothing (attributes s from)
  unfolding sets_reading
  sets-broken q = sym (rw q at step)

  module _ (x : Attribute) (q : r ≡ A.Attribute x) where
    inside : Bounded s at (A.Attribute x)
    inside = rw (sym e ∙ q) at (bounded s at)

    pub sets-less : length s - x.next < length s - at
    sets-less = let i = inside in omega arith

    module _ (p : List ℕ) (ep : p ≡ part_of s 0 x.end) (v : Result Set Refusal) (ev : v ≡ set_reading p x.start named) where
      rest : Set → Result Sets Refusal
      rest set = sets_reading s named (with_asked sets set) (attributes s x.next)

      one : sets_reading s named Nothing (attributes s from) ≡ and_then v rest
      unfolding sets_reading rest
      one = rw q at step ∙ ap (λ (y : Result Set Refusal). and_then y rest) (sym (ev ∙ ap (λ (y : List ℕ). set_reading y x.start named) ep))

      pub sets-refused : (why : Refusal) (y : Result Sets Refusal) → v ≡ Err why → y ≡ Err why → y ≡ sets_reading s named Nothing (attributes s from)
      sets-refused why y h ey = ey ∙ sym (one ∙ ap (λ (z : Result Set Refusal). and_then z rest) h)

      pub sets_more : (set : Set) (y : Sets) → v ≡ Ok set → y ≡ with_asked sets set → SetsFrom s named from y x.next
      unfolding rest
      sets_more set y h ey =
          one ∙ ap (λ (z : Result Set Refusal). and_then z rest) h ∙ sym (ap (λ (z : Sets). sets_reading s named z (attributes s x.next)) ey)

pub ruleset sets-laws = (sets-start, sets_end, sets-broken, sets-less, sets-refused, sets_more)

module _ (m : List ℕ) (nest : Slot) (named : Bool) (c : List ℕ) (ec : c ≡ part_of m 0 nest.end)
    (p : List Rule) (ep : p ≡ string_sets_policy) (w : Walked) (ew : w ≡ walked p c nest.start) where
  read : List ℕ → Result Sets Refusal
  read x = sets_reading x named Nothing (attributes x nest.start)

  by-walk : nest_reading m nest named ≡ on_stop w.stop Err (read c)
  unfolding nest_reading read
  by-walk =
      ap (λ (x : List ℕ). on_stop (walked string_sets_policy x nest.start).stop Err (read x)) (sym ec)
      ∙ ap (λ (x : Walked). on_stop x.stop Err (read c)) (sym (ew ∙ ap (λ (x : List Rule). walked x c nest.start) ep))

  pub nest-fault : (f : Fault) (at : ℕ) (y : Refusal) → w.stop ≡ S.At f at → y ≡ of_fault f at → Err y ≡ nest_reading m nest named
  nest-fault f at y q ey = ap Err ey ∙ sym (by-walk ∙ ap (λ (x : Stop). on_stop x Err (read c)) q)

  pub nest-whole : (r : Result Sets Refusal) → w.stop ≡ S.Whole → r ≡ sets_reading c named Nothing (attributes c nest.start) → r ≡ nest_reading m nest named
  unfolding read
  nest-whole r q er = er ∙ sym (by-walk ∙ ap (λ (x : Stop). on_stop x Err (read c)) q)

pub ruleset nest-laws = (nest-fault, nest-whole)

module _ (m : List ℕ) (nest : Slot) (named : Bool) where
  pub list-some : (r : Result Sets Refusal) → nest.present ≡ true → r ≡ nest_reading m nest named → r ≡ list_reading m nest named
  unfolding list_reading
  list-some r h er = er ∙ sym (cond-true nest.present _ _ h)

  pub list-none : nest.present ≡ false → Ok Nothing ≡ list_reading m nest named
  unfolding list_reading
  list-none h = sym (cond-false nest.present _ _ h)

pub ruleset list-laws = (list-some, list-none)
