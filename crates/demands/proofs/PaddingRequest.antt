-- The header nest and the top level of two messages that agree but for paddings.
--     target-same        a header nest names the same port with the same flags, or is refused alike
--     top-same           the top level has the same nests, or is refused alike
--     nests-agree        the nests that are found agree
--     named-same, reading-same    so the header names the same port, and the bitset reads the same
use Prim.Native.Nat.{ℕ, ◌-◌, ◌≤◌}
use mathlib.Core.Path.{◌≡◌, refl, sym, ap, ◌∙◌}
use mathlib.Core.List.{List}
use mathlib.Core.Bool.{Bool, true, false, ◌&&◌, ◌||◌, not, cond}
use lib.ListN.{length}
use lib.Dec.{ltb}
use native.Mathlib.Omega.{arith}
use Rattle.netlink_attributes.specs.Attributes.{part_of}
use Rattle.netlink.specs.Policy.{rule_of}
use Rattle.netlink.specs.Walk.{found, walked, slot_number}
use Rattle.netlink.specs.declared.walk.Slot.{Slot}
use Rattle.netlink.specs.declared.walk.Stop.{Stop}
use Rattle.netlink.specs.declared.walk.Stop.TheVariants.{Whole, At}
use Rattle.netlink.specs.declared.walk.Walked.{Walked}
use Rattle.refusal.specs.Refusal.{on_stop, on_walk}
use Rattle.refusal.specs.declared.Refusal.{Refusal}
use Rattle.refusal.specs.declared.Refusal.TheVariants as R
use Rattle.bitset.specs.Judge.{bitset_reading}
use Rattle.request.specs.Policies.{top_policy, header_policy}
use Rattle.request.specs.Parts.{top_parts, header_parts}
use Rattle.request.specs.Top.{nests_of, top_of}
use Rattle.request.specs.Header.{flags_judged, parts_of, dump_parts_of, judged_parts, header_of}
use Rattle.request.specs.Port.{other_name, port_by_index, port_by_name, port_of}
use Rattle.request.specs.Target.{with_flags, target_of}
use Rattle.request.specs.Optional.{gives_port, optional_header_of, optional_target_of}
use Rattle.request.specs.declared.parts.HeaderParts.{HeaderParts}
use Rattle.request.specs.declared.parts.TopParts.{TopParts}
use Rattle.demands.specs.Padding.{SameBytes, Payloads, NestOf, PlainAgrees, BitsetAgrees, TopAgrees}
use Rattle.demands.proofs.PaddingAttributes.{part_none, part-of-part, cut-long, part-long}
use Rattle.demands.proofs.PaddingWalk.{JudgedAlike, nest-judged, unlisted-judged, nest-or, plain_payloads, same-judged, SlotAgrees, plain-number, walked_same, slot-agrees}
use Rattle.demands.proofs.PaddingWalk.SlotAgrees.{none, some}
use Rattle.demands.proofs.PaddingBitset.{bitset-same}
use Rattle.std.specs.Prelude.{Result, Ok, Err}
use Rattle.request.specs.declared.header.Header.{Header}
use Rattle.request.specs.declared.target.Addressee.{Addressee}
use Rattle.request.specs.declared.target.Addressee.TheVariants.{Unnamed}
use Rattle.basics.specs.Results.{and_then}

-- the port that the parts of a header name, or in a dump none
abbrev named : List ℕ → Slot → Bool → List ℕ → Header → Result Addressee Refusal
named m header dump roll x = cond dump (Ok (Unnamed x.flags)) (with_flags (port_of m header x.parts roll) x.flags)

-- the port that they name, if they name one
abbrev optional : List ℕ → Slot → List ℕ → Header → Result Addressee Refusal
optional m header roll x = cond (gives_port x.parts) (with_flags (port_of m header x.parts roll) x.flags) (Ok (Unnamed x.flags))

-- the parts of a header, whose flags and port are read where they stand in the message
module _ (s t roll : List ℕ) (header : Slot) (p : HeaderParts)
    (index : part_of t p.index.start p.index.end ≡ part_of s p.index.start p.index.end)
    (name : part_of t p.name.start p.name.end ≡ part_of s p.name.start p.name.end)
    (flags : part_of t p.flags.start p.flags.end ≡ part_of s p.flags.start p.flags.end) where
  port-same : port_of t header p roll ≡ port_of s header p roll
  unfolding port_of port_by_index port_by_name other_name
  port-same = rw (plain-number s t p.index index, name)

  abbrev number : ℕ
  number = slot_number s p.flags

  -- a refusal where a test holds, then 15
  abbrev judge : Bool → Refusal → Bool → Result Header Refusal
  judge a why b = cond a (Err why) (cond b (Err (R.HeaderFlag (p.flags.start - 4))) (Ok (record { parts = p; flags = number })))

  parts_same : (nest : ℕ) (dump : Bool) → and_then (judged_parts t nest dump p) (named t header dump roll) ≡ and_then (judged_parts s nest dump p) (named s header dump roll)
  unfolding parts_of dump_parts_of flags_judged
  parts_same nest dump = rw (plain-number s t p.flags flags) (by dump)
    where
      one : (a b : Bool) → and_then (judge a (R.NoPort nest) b) (named t header false roll) ≡ and_then (judge a (R.NoPort nest) b) (named s header false roll)
      one true b = refl
      one false true = refl
      one false false = ap (λ (x : Result ℕ Refusal). with_flags x number) port-same

      all : (a b : Bool) → and_then (judge a R.Dump b) (named t header true roll) ≡ and_then (judge a R.Dump b) (named s header true roll)
      all true b = refl
      all false true = refl
      all false false = refl

      given : Bool
      given = p.index.present || p.name.present

      by : (d : Bool)
          → and_then (cond d (judge given R.Dump (ltb 3 number)) (judge (not given) (R.NoPort nest) (ltb 3 number))) (named t header d roll)
          ≡ and_then (cond d (judge given R.Dump (ltb 3 number)) (judge (not given) (R.NoPort nest) (ltb 3 number))) (named s header d roll)
      by true = all given (ltb 3 number)
      by false = one (not given) (ltb 3 number)

  -- where it may name no port
  optional-parts-same : and_then (flags_judged t p) (optional t header roll) ≡ and_then (flags_judged s p) (optional s header roll)
  unfolding flags_judged
  optional-parts-same = rw (plain-number s t p.flags flags) (by (ltb 3 number))
    where
      by : (b : Bool) → and_then (cond b (Err (R.HeaderFlag (p.flags.start - 4))) (Ok (record { parts = p; flags = number }))) (optional t header roll)
          ≡ and_then (cond b (Err (R.HeaderFlag (p.flags.start - 4))) (Ok (record { parts = p; flags = number }))) (optional s header roll)
      by true = refl
      by false = ap (λ (x : Result ℕ Refusal). cond (gives_port p) (with_flags x number) (Ok (Unnamed number))) port-same

-- the header nest, from a to e
module _ (s t : List ℕ) (size : length s ≡ length t) (dump : Bool) (roll : List ℕ) (a e : ℕ) (inside : e ≤ length s)
    (agree : PlainAgrees (part_of s 0 e) (part_of t 0 e) a) where
  abbrev c : List ℕ
  c = part_of s 0 e

  abbrev d : List ℕ
  d = part_of t 0 e

  -- what stands in the nest stands in the message
  in-message : {kind : ℕ} {slot : Slot} → SlotAgrees c d (plain_payloads c d) kind slot → part_of t slot.start slot.end ≡ part_of s slot.start slot.end
  in-message none = part_none t ∙ sym (part_none s)
  in-message (some start end l u same) =
      let long = part-long s 0 e (omega arith) inside in
      sym (part-of-part t e start end (omega arith) l (omega arith)) ∙ sym same ∙ part-of-part s e start end inside l (omega arith)

  pub target-same : target_of t (found a e) dump roll ≡ target_of s (found a e) dump roll
  unfolding target_of header_of header_parts
  target-same =
      let w = walked header_policy c a in
      ap (λ (x : Walked). and_then (on_walk x Err (λ slots. judged_parts t (a - 4) dump (header_parts slots))) (named t (found a e) dump roll))
      (walked_same c d (cut-long s t size e inside) (plain_payloads c d) header_policy
      (λ kind start end q. same-judged c d (rule_of header_policy kind) start end q) a agree)
      ∙ go w.stop (judged_parts t (a - 4) dump (header_parts w.slots)) (judged_parts s (a - 4) dump (header_parts w.slots))
      (λ (whole : w.stop ≡ Whole).
      let slot = slot-agrees c d (cut-long s t size e inside) (plain_payloads c d) header_policy a agree whole in
      parts_same s t roll (found a e) (header_parts w.slots)
      (in-message (slot 1 (omega arith))) (in-message (slot 2 (omega arith))) (in-message (slot 3 (omega arith))) (a - 4) dump)
    where
      go : (x : Stop) (f g : Result Header Refusal) → (x ≡ Whole → and_then f (named t (found a e) dump roll) ≡ and_then g (named s (found a e) dump roll))
          → and_then (on_stop x Err f) (named t (found a e) dump roll) ≡ and_then (on_stop x Err g) (named s (found a e) dump roll)
      go Whole f g q = q refl
      go (At fault at) f g q = refl

  pub optional-same : optional_target_of t (found a e) roll ≡ optional_target_of s (found a e) roll
  unfolding optional_target_of optional_header_of header_parts
  optional-same =
      let w = walked header_policy c a in
      ap (λ (x : Walked). and_then (on_walk x Err (λ slots. flags_judged t (header_parts slots))) (optional t (found a e) roll))
      (walked_same c d (cut-long s t size e inside) (plain_payloads c d) header_policy
      (λ kind start end q. same-judged c d (rule_of header_policy kind) start end q) a agree)
      ∙ go w.stop (flags_judged t (header_parts w.slots)) (flags_judged s (header_parts w.slots))
      (λ (whole : w.stop ≡ Whole).
      let slot = slot-agrees c d (cut-long s t size e inside) (plain_payloads c d) header_policy a agree whole in
      optional-parts-same s t roll (found a e) (header_parts w.slots)
      (in-message (slot 1 (omega arith))) (in-message (slot 2 (omega arith))) (in-message (slot 3 (omega arith))))
    where
      go : (x : Stop) (f g : Result Header Refusal) → (x ≡ Whole → and_then f (optional t (found a e) roll) ≡ and_then g (optional s (found a e) roll))
          → and_then (on_stop x Err f) (optional t (found a e) roll) ≡ and_then (on_stop x Err g) (optional s (found a e) roll)
      go Whole f g q = q refl
      go (At fault at) f g q = refl

-- how the payloads of the top level agree
abbrev pub top_payloads : List ℕ → List ℕ → Payloads
top_payloads s t kind start end =
    NestOf 1 kind (PlainAgrees (part_of s 0 end) (part_of t 0 end) start)
    (NestOf 2 kind (BitsetAgrees (part_of s 0 end) (part_of t 0 end) start) (SameBytes s t start end))

-- the top level
module _ (s t : List ℕ) (size : length s ≡ length t) (agree : TopAgrees s t) where
  -- a bitset is a nest in a SET; in a GET it is not listed
  bitset-judged : (change : Bool) (x y : List ℕ) → JudgedAlike (rule_of (top_policy change) 2) x y
  unfolding rule_of top_policy
  bitset-judged true x y = nest-judged x y
  bitset-judged false x y = unlisted-judged x y

  top-judged : (change : Bool) (kind start end : ℕ) → top_payloads s t kind start end
      → JudgedAlike (rule_of (top_policy change) kind) (part_of t start end) (part_of s start end)
  unfolding rule_of top_policy
  top-judged change kind start end q =
      let x = part_of t start end in
      let y = part_of s start end in
      nest-or (top_policy change) 1 kind x y (nest-judged x y)
      (λ r. nest-or (top_policy change) 2 kind x y (bitset-judged change x y) (λ same. same-judged s t (rule_of (top_policy change) kind) start end same) r) q

  pub top-same : (change : Bool) → top_of t change ≡ top_of s change
  unfolding top_of
  top-same change = rw (walked_same s t size (top_payloads s t) (top_policy change) (top-judged change) 20 agree)

  -- the nests that are found: a header stands there, and both agree
  module _ (change : Bool) (parts : TopParts) where
    pub nests-agree : top_of s change ≡ Ok parts
        → SlotAgrees s t (top_payloads s t) 1 parts.header × (parts.header.present ≡ true) × SlotAgrees s t (top_payloads s t) 2 parts.bitset
    unfolding top_of nests_of top_parts
    nests-agree = go (walked (top_policy change) s 20).stop refl
      where
        is-it : (present lacks : Bool) (p : TopParts) → p.header.present ≡ present
            → cond (not present) (Err (R.MissingTop 1)) (cond lacks (Err (R.MissingTop 2)) (Ok p)) ≡ Ok parts
            → (p ≡ parts) × (p.header.present ≡ true)
        is-it false lacks p f e = absurd (let z : ◌≡◌ {A = ℕ} 0 1 = cc in omega arith)
        is-it true true p f e = absurd (let z : ◌≡◌ {A = ℕ} 0 1 = cc in omega arith)
        is-it true false p f e = (cc, f)

        go : (x : Stop) → (walked (top_policy change) s 20).stop ≡ x
            → on_stop x Err (nests_of change (top_parts (walked (top_policy change) s 20).slots)) ≡ Ok parts
            → SlotAgrees s t (top_payloads s t) 1 parts.header × (parts.header.present ≡ true) × SlotAgrees s t (top_payloads s t) 2 parts.bitset
        go (At fault at) w e = absurd (let z : ◌≡◌ {A = ℕ} 0 1 = cc in omega arith)
        go Whole w e =
            let p = top_parts (walked (top_policy change) s 20).slots in
            let slot = slot-agrees s t size (top_payloads s t) (top_policy change) 20 agree w in
            let is = is-it p.header.present (change && not p.bitset.present) p refl e in
            let same = is.0 in (
              rw (ap (λ (q : TopParts). q.header) same) at (slot 1 (omega arith)),
              rw (ap (λ (q : TopParts). q.header) same) at is.1,
              rw (ap (λ (q : TopParts). q.bitset) same) at (slot 2 (omega arith)),
            )

  -- so the header names the same port, and the bitset reads the same
  pub named-same : (dump : Bool) (roll : List ℕ) {slot : Slot} → SlotAgrees s t (top_payloads s t) 1 slot → slot.present ≡ true
      → target_of t slot dump roll ≡ target_of s slot dump roll
  named-same dump roll none e = absurd (let z : ◌≡◌ {A = ℕ} 0 1 = cc in omega arith)
  named-same dump roll (some a e l u q) p = target-same s t size dump roll a e u (q.0 refl)

  pub reading-same : (names : List ℕ) {slot : Slot} → SlotAgrees s t (top_payloads s t) 2 slot
      → bitset_reading (part_of t 0 slot.end) slot.start names ≡ bitset_reading (part_of s 0 slot.end) slot.start names
  reading-same names none = rw (part_none s, part_none t)
  reading-same names (some a e l u q) = bitset-same (part_of s 0 e) (part_of t 0 e) (cut-long s t size e u) names a ((q.1 (λ k. omega arith)).0 refl)
