-- Laws of judging a bit list: one for each return, and for each turn of the loop over its BITs.
use Rattle.std.specs.Prelude.{Result, Ok, Err}
use Prim.Native.Nat.{ℕ, zero, suc, ◌-◌, ◌<◌}
use mathlib.Core.Path.{◌≡◌, refl, sym, ap, ◌∙◌}
use mathlib.Core.List.{List}
use mathlib.Core.Bool.{cond}
use lib.ListN.{length}
use lib.Dec.{eqb}
use native.Mathlib.Omega.{arith}
use borrow.Author.Tests.{eqb-true, eqb-false}
use Rattle.basics.proofs.Truth.{true_of}
use Rattle.netlink_attributes.specs.Attributes.{Attributes, attributes, attribute_at, on_read, part_of}
use Rattle.netlink.specs.Policy.{rule_of, judged}
use Rattle.netlink.specs.Walk.{found, absent, on_verdict, first_fault, last_of_type, each_type, walked_to as walk_stop, walked}
use Rattle.netlink_attributes.specs.declared.AttributeRead.{AttributeRead}
use Rattle.netlink_attributes.specs.declared.Attribute.{Attribute}
use Rattle.netlink_attributes.specs.declared.AttributeRead.TheVariants as A
use Rattle.netlink.specs.declared.policy.Fault.{Fault}
use Rattle.netlink.specs.declared.policy.Fault.TheVariants.{Length, Unknown}
use Rattle.netlink.specs.declared.policy.Rule.{Rule}
use Rattle.netlink.specs.declared.policy.Rule.TheVariants.{Unlisted}
use Rattle.netlink.specs.declared.policy.Verdict.{Verdict}
use Rattle.netlink.specs.declared.policy.Verdict.TheVariants.{Right, Wrong}
use Rattle.netlink.specs.declared.walk.Slot.{Slot}
use Rattle.netlink.specs.declared.walk.Stop.{Stop}
use Rattle.netlink.specs.declared.walk.Stop.TheVariants as S
use Rattle.netlink_attributes.proofs.Laws.{Bounded, bounded, attributes-step}
use Rattle.refusal.specs.Refusal.{of_fault}
use Rattle.refusal.specs.declared.Refusal.{Refusal}
use Rattle.bitset_form.specs.Policies.{bit_policy}
use Rattle.bitset_form.specs.Parts.{bit_parts}
use Rattle.bitset_form.specs.declared.parts.BitParts.{BitParts}
use Rattle.bitset_bit.specs.Bit.{bit_parts_reading, bit_walked, bit_reading}
use Rattle.basics.specs.Results.{and_then}
use Rattle.refusal.specs.Refusal.{on_stop, on_walk}

-- the rule for any other type in a BIT
rule-other : (k : ℕ) → (k ≡ 1 → ⊥) → (k ≡ 2 → ⊥) → (k ≡ 3 → ⊥) → Unlisted ≡ rule_of bit_policy k
unfolding rule_of
rule-other zero a b c = refl
rule-other (suc zero) a b c = absurd (a refl)
rule-other (suc (suc zero)) a b c = absurd (b refl)
rule-other (suc (suc (suc zero))) a b c = absurd (c refl)
rule-other (suc (suc (suc (suc zero)))) a b c = refl
rule-other (suc (suc (suc (suc (suc zero))))) a b c = refl
rule-other (suc (suc (suc (suc (suc (suc zero)))))) a b c = refl
rule-other (suc (suc (suc (suc (suc (suc (suc zero))))))) a b c = refl
rule-other (suc (suc (suc (suc (suc (suc (suc (suc k)))))))) a b c = refl

-- the slots of a BIT whose walk is whole: the last of each type, the slots given where there is none
abbrev last_parts : Attributes → Slot → Slot → Slot → Result BitParts Refusal
last_parts xs i n o = Ok (record { index = last_of_type 1 i xs; name = last_of_type 2 n xs; on = last_of_type 3 o xs })

-- a BIT that is walked as far as a place, with slots i, n, o of its three types
abbrev pub BitFrom : List ℕ → ℕ → Slot → Slot → Slot → ℕ → Type 0
BitFrom s from i n o at = bit_walked s from ≡ on_stop (first_fault bit_policy s (attributes s at)) Err (last_parts (attributes s at) i n o)

pub bit-start : (s : List ℕ) (from : ℕ) (i n o : Slot) → i ≡ absent → n ≡ absent → o ≡ absent → BitFrom s from i n o from
unfolding bit_walked walked bit_parts
bit-start s from i n o ei en eo = rw (ei, en, eo) (go (first_fault bit_policy s (attributes s from)))
  where
    go : (t : Stop)
        → on_walk (walk_stop t (each_type (λ kind. last_of_type kind absent (attributes s from)))) Err (λ slots. Ok (bit_parts slots))
        ≡ on_stop t Err (last_parts (attributes s from) absent absent absent)
    go S.Whole = refl
    go (S.At f at) = refl

module _ (s : List ℕ) (from : ℕ) (i n o : Slot) (at : ℕ) (inv : BitFrom s from i n o at) (r : AttributeRead) (e : r ≡ attribute_at s at) where
  abbrev reading : Attributes → Result BitParts Refusal
  reading xs = on_stop (first_fault bit_policy s xs) Err (last_parts xs i n o)

  bit-step : bit_walked s from ≡ reading (on_read r at (attributes s))
  bit-step = inv ∙ ap reading (attributes-step s at ∙ ap (λ (x : AttributeRead). on_read x at (attributes s)) (sym e))

  pub bit-end : r ≡ A.End → Ok (record { index = i; name = n; on = o }) ≡ bit_walked s from
  unfolding first_fault last_of_type
  bit-end q = sym (rw q at bit-step)

  pub bit-broken : (y : Refusal) → r ≡ A.Broken → y ≡ of_fault Length at → Err y ≡ bit_walked s from
  unfolding first_fault
  bit-broken y q ey = ap Err ey ∙ sym (rw q at bit-step)

  module _ (x : Attribute) (q : r ≡ A.Attribute x) where
    within : Bounded s at (A.Attribute x)
    within = rw (sym e ∙ q) at (bounded s at)

    pub bit-less : length s - x.next < length s - at
    bit-less = let i = within in omega arith

    module _ (l : List ℕ) (v : Verdict) (el : l ≡ part_of s x.start x.end) (ev : v ≡ judged (rule_of bit_policy x.kind) x.bits l) where
      abbrev here : Slot
      here = found x.start x.end

      -- the parts, this attribute among them by its type
      abbrev kept_as : ℕ → Result BitParts Refusal
      kept_as k = last_parts (attributes s x.next) (cond (eqb k 1) here i) (cond (eqb k 2) here n) (cond (eqb k 3) here o)

      bit-judged : bit_walked s from ≡ on_stop (on_verdict v at (first_fault bit_policy s (attributes s x.next))) Err (kept_as x.kind)
      unfolding first_fault last_of_type
      bit-judged = rw q at bit-step ∙ rw (verdict, place)
        where
          verdict : judged (rule_of bit_policy x.kind) x.bits (part_of s x.start x.end) ≡ v
          verdict = sym (ev ∙ ap (λ (y : List ℕ). judged (rule_of bit_policy x.kind) x.bits y) el)

          place : x.start - 4 ≡ at
          place = let i = within in omega arith

      -- by the type
      bit-kind : (k : ℕ) → x.kind ≡ k → v ≡ Right → bit_walked s from ≡ on_stop (first_fault bit_policy s (attributes s x.next)) Err (kept_as k)
      bit-kind k g h =
          bit-judged
          ∙ ap (λ (y : Verdict). on_stop (on_verdict y at (first_fault bit_policy s (attributes s x.next))) Err (kept_as x.kind)) h
          ∙ ap (λ (y : ℕ). on_stop (first_fault bit_policy s (attributes s x.next)) Err (kept_as y)) g

      pub bit-wrong : (f : Fault) (y : Refusal) → v ≡ Wrong f → y ≡ of_fault f at → Err y ≡ bit_walked s from
      bit-wrong f y h ey = ap Err ey ∙ sym (rw h at bit-judged)

      module _ (h : v ≡ Right) (y : Slot) (ey : y ≡ found x.start x.end) where
        pub bit-index : x.kind ≡ 1 → BitFrom s from y n o x.next
        bit-index g = rw ey (bit-kind 1 g h)

        pub bit-name : x.kind ≡ 2 → BitFrom s from i y o x.next
        bit-name g = rw ey (bit-kind 2 g h)

        -- what is right and neither is VALUE
        pub bit-on : (x.kind ≡ 1 → ⊥) → (x.kind ≡ 2 → ⊥) → BitFrom s from i n y x.next
        unfolding judged
        bit-on n1 n2 = rw ey (bit-kind 3 third h)
          where
            third : x.kind ≡ 3
            third =
                eqb-true x.kind 3
                (true_of (eqb x.kind 3)
                (λ g. let u : v ≡ Wrong Unknown = ev ∙ ap (λ (z : Rule). judged z x.bits l) (sym (rule-other x.kind n1 n2 (eqb-false x.kind 3 g))) in
                let c : ◌≡◌ {A = ℕ} 0 1 = cc in
                omega arith))

pub ruleset bit_laws = (bit-start, bit-end, bit-broken, bit-less, bit-wrong, bit-index, bit-name, bit-on)

-- a BIT's reading by its walk
pub by-walk : (s names : List ℕ) (from : ℕ)
    → bit_reading s names from ≡ on_walk (walked bit_policy s from) Err (λ slots. bit_parts_reading s names (from - 4) (bit_parts slots))
unfolding bit_reading bit_walked
by-walk s names from = go (walked bit_policy s from).stop
  where
    go : (t : Stop)
        → and_then (on_stop t Err (Ok (bit_parts (walked bit_policy s from).slots))) (bit_parts_reading s names (from - 4))
        ≡ on_stop t Err (bit_parts_reading s names (from - 4) (bit_parts (walked bit_policy s from).slots))
    go S.Whole = refl
    go (S.At f at) = refl
