-- A bitset in two lists that agree but for paddings reads the same, level by level.
--     bit-same           one BIT
--     list_same          a bit list: BITS walked whole, then each BIT
--     compact-same       a compact bitset
--     bitset-same        the bitset
use Rattle.std.specs.Prelude.{Result, Err}
use Rattle.bitset_bit.specs.declared.Bit.{Bit}
use Rattle.refusal.specs.declared.Refusal.{Refusal}
use Prim.Native.Nat.{ℕ, zero, suc, ◌-◌}
use mathlib.Core.Path.{◌≡◌, refl, sym, ap, ◌∙◌}
use mathlib.Core.List.{List}
use mathlib.Core.Bool.{Bool}
use lib.ListN.{length}
use native.Mathlib.Omega.{arith}
use Rattle.entries.specs.Entry.{count}
use Rattle.netlink_attributes.specs.Attributes.{part_of, Attributes, attributes}
use Rattle.netlink_attributes.specs.Attributes.Attributes.{done, broken, attribute}
use Rattle.netlink_attributes.specs.Claims.{Apart}
use Rattle.netlink_attributes.proofs.Apart.{apart}
use Rattle.netlink.specs.Policy.{rule_of, judged}
use Rattle.netlink.specs.Walk.{walked}
use Rattle.netlink.specs.Claims.{Passed}
use Rattle.netlink.specs.Claims.Passed.{next}
use Rattle.netlink.specs.declared.policy.Verdict.TheVariants.{Right}
use Rattle.netlink.specs.declared.walk.Slot.{Slot}
use Rattle.netlink.specs.declared.walk.Stop.TheVariants.{Whole}
use Rattle.netlink.specs.declared.walk.Walked.{Walked}
use Rattle.netlink.proofs.walk.Meaning.{whole-passed, stop_is}
use Rattle.refusal.specs.Refusal.{on_stop, on_walk}
use Rattle.bitset_form.specs.Policies.{bitset_policy, bits_policy, bit_policy}
use Rattle.bitset_form.specs.Parts.{bitset_parts, bit_parts}
use Rattle.bitset_form.specs.declared.parts.BitsetParts.{BitsetParts}
use Rattle.bitset_form.specs.declared.parts.BitParts.{BitParts}
use Rattle.bitset_form.specs.Bitset.{Reading}
use Rattle.bitset_form.specs.Bitset.Reading.{refused}
use Rattle.bitset_bit.specs.Bit.{bit_by_index, bit_by_name, identified, bit_parts_reading, bit_reading}
use Rattle.bitset_bit.proofs.Laws.{by-walk}
use Rattle.bitset_list.specs.BitList.{bits_reading, as_bitset, list_reading}
use Rattle.bitset_compact.specs.Compact.{nomask_reading, masked_reading, compact_reading}
use Rattle.bitset.specs.Judge.{bitset_parts_reading, bitset_reading}
use Rattle.demands.specs.Padding.{SameBytes, Payloads, EachAgrees, NestOf, PlainAgrees, BitsAgree, BitsetAgrees}
use Rattle.demands.proofs.PaddingAttributes.{part_none, cut-long, attributes-same}
use Rattle.demands.proofs.PaddingWalk.{on-whole, JudgedAlike, nest-judged, nest-or, plain_payloads, same-judged, SlotAgrees, plain-slot, plain-number, walked_same, slot-agrees}
use Rattle.demands.proofs.PaddingWalk.SlotAgrees.{none, some}

-- one BIT
module _ (s t : List ℕ) (size : length s ≡ length t) (names : List ℕ) (from : ℕ) (agree : PlainAgrees s t from) where
  bit-payload : {kind : ℕ} {slot : Slot} → SlotAgrees s t (plain_payloads s t) kind slot
      → part_of t slot.start slot.end ≡ part_of s slot.start slot.end
  bit-payload a = plain-slot s t (λ a e q. q) a

  bit-parts-same : (at : ℕ) (p : BitParts) → SlotAgrees s t (plain_payloads s t) 1 p.index → SlotAgrees s t (plain_payloads s t) 2 p.name
      → bit_parts_reading t names at p ≡ bit_parts_reading s names at p
  unfolding bit_parts_reading identified bit_by_index bit_by_name
  bit-parts-same at p index name = rw (plain-number s t p.index (bit-payload index), bit-payload name)

  pub bit-same : bit_reading t names from ≡ bit_reading s names from
  unfolding bit_parts
  bit-same =
      let w = walked bit_policy s from in
      let read : List ℕ → List Slot → Result Bit Refusal = λ m slots. bit_parts_reading m names (from - 4) (bit_parts slots) in
      by-walk t names from
      ∙ ap (λ (x : Walked). on_walk x Err (read t))
      (walked_same s t size (plain_payloads s t) bit_policy (λ kind start end q. same-judged s t (rule_of bit_policy kind) start end q) from agree)
      ∙ on-whole w Err (read t) (read s)
      (λ (whole : w.stop ≡ Whole).
      let slot = slot-agrees s t size (plain_payloads s t) bit_policy from agree whole in
      bit-parts-same (from - 4) (bit_parts w.slots) (slot 1 (omega arith)) (slot 2 (omega arith)))
      ∙ sym (by-walk s names from)

-- under the policy of BITS only a BIT is right
pub bits-kind : (kind bits : ℕ) (payload : List ℕ) → judged (rule_of bits_policy kind) bits payload ≡ Right → kind ≡ 1
unfolding judged rule_of
bits-kind zero bits x e = absurd (let z : ◌≡◌ {A = ℕ} 0 1 = cc in omega arith)
bits-kind (suc zero) bits x e = refl
bits-kind (suc (suc zero)) bits x e = absurd (let z : ◌≡◌ {A = ℕ} 0 1 = cc in omega arith)
bits-kind (suc (suc (suc zero))) bits x e = absurd (let z : ◌≡◌ {A = ℕ} 0 1 = cc in omega arith)
bits-kind (suc (suc (suc (suc zero)))) bits x e = absurd (let z : ◌≡◌ {A = ℕ} 0 1 = cc in omega arith)
bits-kind (suc (suc (suc (suc (suc zero))))) bits x e = absurd (let z : ◌≡◌ {A = ℕ} 0 1 = cc in omega arith)
bits-kind (suc (suc (suc (suc (suc (suc zero)))))) bits x e = absurd (let z : ◌≡◌ {A = ℕ} 0 1 = cc in omega arith)
bits-kind (suc (suc (suc (suc (suc (suc (suc zero))))))) bits x e = absurd (let z : ◌≡◌ {A = ℕ} 0 1 = cc in omega arith)
bits-kind (suc (suc (suc (suc (suc (suc (suc (suc k)))))))) bits x e = absurd (let z : ◌≡◌ {A = ℕ} 0 1 = cc in omega arith)

-- how the payloads of BITS agree
abbrev pub bits_payloads : List ℕ → List ℕ → Payloads
bits_payloads s t kind start end = NestOf 1 kind (PlainAgrees (part_of s 0 end) (part_of t 0 end) start) (SameBytes s t start end)

-- the BITs of a list from a position on, under NOMASK or not
abbrev list_at : List ℕ → Bool → List ℕ → ℕ → Reading
list_at names nomask m from = on_stop (walked bits_policy m from).stop refused (as_bitset nomask (bits_reading m names (attributes m from)))

-- a bit list
module _ (s t : List ℕ) (size : length s ≡ length t) (names : List ℕ) where
  pub bits-judged : (kind start end : ℕ) → bits_payloads s t kind start end → JudgedAlike (rule_of bits_policy kind) (part_of t start end) (part_of s start end)
  unfolding rule_of
  bits-judged kind start end q =
      nest-or bits_policy 1 kind (part_of t start end) (part_of s start end) (nest-judged (part_of t start end) (part_of s start end))
      (λ same. same-judged s t (rule_of bits_policy kind) start end same) q

  bits-same : (at : ℕ) (xs : Attributes) → Apart s at xs → Passed bits_policy s xs done → EachAgrees s t (bits_payloads s t) xs
      → bits_reading t names xs ≡ bits_reading s names xs
  unfolding bits_reading
  bits-same at done a p q = refl
  bits-same at (broken b) a p q = refl
  bits-same at (attribute k b start end rest) a (next right p) q =
      rw (
        bit-same (part_of s 0 end) (part_of t 0 end) (cut-long s t size end a.3) names start (q.1.0 (bits-kind k b (part_of s start end) right)),
        bits-same a.5.0 rest a.5.3 p q.2,
      )

  list-at-same : (nomask : Bool) (from : ℕ) → BitsAgree s t from → list_at names nomask t from ≡ list_at names nomask s from
  list-at-same nomask from agree =
      let w = walked bits_policy s from in
      let read : List ℕ → Reading = λ m. as_bitset nomask (bits_reading m names (attributes m from)) in
      ap (λ (x : Walked). on_stop x.stop refused (read t)) (walked_same s t size (bits_payloads s t) bits_policy bits-judged from agree)
      ∙ on-whole w refused (λ slots. read t) (λ slots. read s)
      (λ (whole : w.stop ≡ Whole).
      let passed = whole-passed bits_policy s (attributes s from) (sym (stop_is bits_policy s from) ∙ whole) in
      ap (λ (xs : Attributes). as_bitset nomask (bits_reading t names xs)) (attributes-same s t size (bits_payloads s t) from agree)
      ∙ ap (as_bitset nomask) (bits-same from (attributes s from) (apart s from) passed agree))

-- how the payloads of a bitset agree
abbrev bitset_payloads : List ℕ → List ℕ → Payloads
bitset_payloads s t kind start end = NestOf 3 kind (BitsAgree (part_of s 0 end) (part_of t 0 end) start) (SameBytes s t start end)

-- the parts of a bitset
module _ (s t : List ℕ) (size : length s ≡ length t) (names : List ℕ) where
  bitset-judged : (kind start end : ℕ) → bitset_payloads s t kind start end → JudgedAlike (rule_of bitset_policy kind) (part_of t start end) (part_of s start end)
  unfolding rule_of
  bitset-judged kind start end q =
      nest-or bitset_policy 3 kind (part_of t start end) (part_of s start end) (nest-judged (part_of t start end) (part_of s start end))
      (λ same. same-judged s t (rule_of bitset_policy kind) start end same) q

  pub list_same : (p : BitsetParts) → SlotAgrees s t (bitset_payloads s t) 3 p.bits → list_reading t names p ≡ list_reading s names p
  unfolding list_reading
  list_same p agree = go agree
    where
      go : {slot : Slot} → SlotAgrees s t (bitset_payloads s t) 3 slot
          → list_at names p.nomask.present (part_of t 0 slot.end) slot.start ≡ list_at names p.nomask.present (part_of s 0 slot.end) slot.start
      go none = rw (part_none s, part_none t)
      go (some a e l u q) = list-at-same (part_of s 0 e) (part_of t 0 e) (cut-long s t size e u) names p.nomask.present a (q.0 refl)

  -- SIZE, VALUE and MASK are no nests
  payload : (kind : ℕ) (slot : Slot) → (kind ≡ 3 → ⊥) → SlotAgrees s t (bitset_payloads s t) kind slot
      → part_of t slot.start slot.end ≡ part_of s slot.start slot.end
  payload kind slot other agree = plain-slot s t (λ a e q. q.1 other) agree

  pub compact-same : (nest n : ℕ) (p : BitsetParts) → SlotAgrees s t (bitset_payloads s t) 2 p.size
      → SlotAgrees s t (bitset_payloads s t) 4 p.value → SlotAgrees s t (bitset_payloads s t) 5 p.mask
      → compact_reading t nest n p ≡ compact_reading s nest n p
  unfolding compact_reading nomask_reading masked_reading
  compact-same nest n p two four five =
      let number = plain-number s t p.size (payload 2 p.size (λ e. omega arith) two) in
      rw (number, payload 4 p.value (λ e. omega arith) four, payload 5 p.mask (λ e. omega arith) five)

  -- the bitset
  pub bitset-same : (from : ℕ) → BitsetAgrees s t from → bitset_reading t from names ≡ bitset_reading s from names
  unfolding bitset_reading bitset_parts_reading bitset_parts
  bitset-same from agree =
      let w = walked bitset_policy s from in
      let read : List ℕ → List Slot → Reading = λ m slots. bitset_parts_reading m (from - 4) names (bitset_parts slots) in
      ap (λ (x : Walked). on_walk x refused (read t)) (walked_same s t size (bitset_payloads s t) bitset_policy bitset-judged from agree)
      ∙ on-whole w refused (read t) (read s)
      (λ (whole : w.stop ≡ Whole).
      let slot = slot-agrees s t size (bitset_payloads s t) bitset_policy from agree whole in
      let p = bitset_parts w.slots in
      rw (list_same p (slot 3 (omega arith)), compact-same (from - 4) (count names) p (slot 2 (omega arith)) (slot 4 (omega arith)) (slot 5 (omega arith))))
