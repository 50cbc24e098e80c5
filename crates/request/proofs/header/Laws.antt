-- Laws of the header level: one for each return.
use Prim.Native.Nat.{ℕ, ◌-◌, ◌≤◌, ◌<◌}
use mathlib.Core.Path.{◌≡◌, sym, ap, ◌∙◌}
use mathlib.Core.List.{List}
use mathlib.Core.Bool.{Bool, true, false, ◌||◌, not, cond}
use borrow.Author.Tests.{lt-ltb, le-ltb}
use Rattle.basics.proofs.Truth.{cond-true, cond-false}
use Rattle.netlink_attributes.specs.Attributes.{part_of}
use Rattle.netlink.specs.Walk.{walked, slot_number}
use Rattle.netlink.specs.declared.policy.Fault.{Fault}
use Rattle.netlink.specs.declared.policy.Rule.{Rule}
use Rattle.netlink.specs.declared.walk.Slot.{Slot}
use Rattle.netlink.specs.declared.walk.Stop.{Stop}
use Rattle.netlink.specs.declared.walk.Stop.TheVariants as S
use Rattle.netlink.specs.declared.walk.Walked.{Walked}
use Rattle.refusal.specs.Refusal.{of_fault}
use Rattle.refusal.specs.declared.Refusal.{Refusal}
use Rattle.refusal.specs.declared.Refusal.TheVariants.{Dump, NoPort, HeaderFlag}
use Rattle.request.specs.Policies.{header_policy}
use Rattle.refusal.specs.Refusal.{on_stop}
use Rattle.request.specs.Parts.{header_parts}
use Rattle.request.specs.declared.parts.HeaderParts.{HeaderParts}
use Rattle.request.specs.Header.{flags_judged, parts_of, dump_parts_of, judged_parts, header_of}
use Rattle.std.specs.Prelude.{Result, Ok, Err}
use Rattle.request.specs.declared.header.Header.{Header}

module _ (m : List ℕ) (parts : HeaderParts) (f : ℕ) (ef : f ≡ slot_number m parts.flags) where
  pub flags-other : (at : ℕ) → at ≡ parts.flags.start - 4 → 3 < f → Err (HeaderFlag at) ≡ flags_judged m parts
  unfolding flags_judged
  flags-other at ea l = rw (ea, ← ef, lt-ltb _ _ l)

  pub flags-known : f ≤ 3 → Ok (record { parts = parts; flags = f }) ≡ flags_judged m parts
  unfolding flags_judged
  flags-known l = rw (← ef, le-ltb _ _ l)

pub ruleset flags-laws = (flags-other, flags-known)

module _ (m : List ℕ) (nest : ℕ) (parts : HeaderParts) (b : Bool) (eb : b ≡ (parts.index.present || parts.name.present)) where
  by-port : parts_of m nest parts ≡ cond (not b) (Err (NoPort nest)) (flags_judged m parts)
  unfolding parts_of
  by-port = ap (λ (x : Bool). cond (not x) (Err (NoPort nest)) (flags_judged m parts)) (sym eb)

  pub parts_none : not b ≡ true → Err (NoPort nest) ≡ parts_of m nest parts
  parts_none h = sym (by-port ∙ cond-true (not b) _ _ h)

  pub parts-some : (r : Result Header Refusal) → not b ≡ false → r ≡ flags_judged m parts → r ≡ parts_of m nest parts
  parts-some r h e = e ∙ sym (by-port ∙ cond-false (not b) _ _ h)

pub ruleset parts_laws = (parts_none, parts-some)

module _ (m : List ℕ) (parts : HeaderParts) (b : Bool) (eb : b ≡ (parts.index.present || parts.name.present)) where
  by-dump : dump_parts_of m parts ≡ cond b (Err Dump) (flags_judged m parts)
  unfolding dump_parts_of
  by-dump = ap (λ (x : Bool). cond x (Err Dump) (flags_judged m parts)) (sym eb)

  pub dump-names : b ≡ true → Err Dump ≡ dump_parts_of m parts
  dump-names h = sym (by-dump ∙ cond-true b _ _ h)

  pub dump-none : (r : Result Header Refusal) → b ≡ false → r ≡ flags_judged m parts → r ≡ dump_parts_of m parts
  dump-none r h e = e ∙ sym (by-dump ∙ cond-false b _ _ h)

pub ruleset dump-laws = (dump-names, dump-none)

module _ (m : List ℕ) (header : Slot) (dump : Bool) (p : List Rule) (ep : p ≡ header_policy) (c : List ℕ) (ec : c ≡ part_of m 0 header.end)
    (w : Walked) (ew : w ≡ walked p c header.start) where
  rest : Walked → Result Header Refusal
  rest x = judged_parts m (header.start - 4) dump (header_parts x.slots)

  by-walk : header_of m header dump ≡ on_stop w.stop Err (rest w)
  unfolding header_of rest
  by-walk =
      sym (ap (λ (x : Walked). on_stop x.stop Err (rest x))
      (ew ∙ ap (λ (x : List Rule). walked x c header.start) ep ∙ ap (λ (x : List ℕ). walked header_policy x header.start) ec))

  pub header-fault : (f : Fault) (at : ℕ) (y : Refusal) → w.stop ≡ S.At f at → y ≡ of_fault f at → Err y ≡ header_of m header dump
  header-fault f at y q ey = ap Err ey ∙ sym (by-walk ∙ ap (λ (x : Stop). on_stop x Err (rest w)) q)

  module _ (parts : HeaderParts) (r : Result Header Refusal) (q : w.stop ≡ S.Whole) (es : parts ≡ header_parts w.slots) where
    whole : header_of m header dump ≡ judged_parts m (header.start - 4) dump parts
    unfolding rest
    whole = by-walk ∙ ap (λ (x : Stop). on_stop x Err (rest w)) q ∙ ap (judged_parts m (header.start - 4) dump) (sym es)

    pub header-dump : dump ≡ true → r ≡ dump_parts_of m parts → r ≡ header_of m header dump
    header-dump h e = e ∙ sym (whole ∙ cond-true dump _ _ h)

    pub header-one : (at : ℕ) → dump ≡ false → at ≡ header.start - 4 → r ≡ parts_of m at parts → r ≡ header_of m header dump
    header-one at h ea e = e ∙ ap (λ (x : ℕ). parts_of m x parts) ea ∙ sym (whole ∙ cond-false dump _ _ h)

pub ruleset header-laws = (header-fault, header-dump, header-one)
