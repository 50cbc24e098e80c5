-- The parts of a bitset and of a BIT behind other bytes: the same parts, each place moved.
use Prim.Native.Nat.{ℕ, ◌+◌, ◌-◌}
use mathlib.Core.Path.{◌≡◌, sym, ◌∙◌}
use mathlib.Core.List.{List, ◌++◌}
use mathlib.Core.Bool.{true}
use lib.ListN.{length}
use native.Mathlib.Omega.{arith}
use Rattle.netlink_attributes.specs.Attributes.{part_of}
use Rattle.netlink_attributes.proofs.Laws.{part_in}
use Rattle.netlink.specs.Walk.{walked}
use Rattle.netlink.specs.declared.walk.Slot.{Slot}
use Rattle.netlink.specs.declared.walk.Stop.TheVariants.{Whole}
use Rattle.bitset_form.specs.Policies.{bitset_policy, bit_policy}
use Rattle.bitset_form.specs.Parts.{bitset_parts, bit_parts}
use Rattle.bitset_form.specs.declared.parts.BitsetParts.{BitsetParts}
use Rattle.bitset_form.specs.declared.parts.BitParts.{BitParts}
use Rattle.bitset_moved.proofs.Attributes.{part_moved}
use Rattle.bitset_moved.proofs.Walk.{Shift, place, slot-moved}
use Rattle.bitset_moved.proofs.Walk.Shift.{none, some}

pub record ShiftBitset (by bytes : ℕ) (p q : BitsetParts) : Type 0 where
  pub nomask : Shift by bytes p.nomask q.nomask
  pub size : Shift by bytes p.size q.size
  pub bits : Shift by bytes p.bits q.bits
  pub value : Shift by bytes p.value q.value
  pub mask : Shift by bytes p.mask q.mask

pub record ShiftBit (by bytes : ℕ) (p q : BitParts) : Type 0 where
  pub index : Shift by bytes p.index q.index
  pub name : Shift by bytes p.name q.name
  pub on : Shift by bytes p.on q.on

-- where a slot stands, and what stands in it
pub place-moved : {by bytes : ℕ} {x y : Slot} → Shift by bytes x y → x.present ≡ true → y.start - 4 ≡ by + (x.start - 4)
place-moved none t = absurd (let z : ◌≡◌ {A = ℕ} 0 1 = cc in omega arith)
place-moved {by} (some a e l u h) t = place by a l

module _ (pre c : List ℕ) where
  pub payload-moved : {x y : Slot} → Shift (length pre) (length c) x y
      → part_of (pre ++ c) y.start y.end ≡ part_of c x.start x.end
  payload-moved none = sym (part_in (pre ++ c) 0 0 (omega arith) (omega arith)) ∙ part_in c 0 0 (omega arith) (omega arith)
  payload-moved (some a e l u h) = part_moved pre c a e

  -- the parts that a whole walk gives
  module _ (from : ℕ) where
    pub bitset-parts : (walked bitset_policy c from).stop ≡ Whole
        → ShiftBitset (length pre) (length c) (bitset_parts (walked bitset_policy c from).slots) (bitset_parts (walked bitset_policy (pre ++ c) (length pre + from)).slots)
    unfolding bitset_parts
    bitset-parts w =
        let moves = slot-moved pre c bitset_policy from w in
        record {
          nomask = moves 1 (omega arith);
          size = moves 2 (omega arith);
          bits = moves 3 (omega arith);
          value = moves 4 (omega arith);
          mask = moves 5 (omega arith);
        }

    pub bit-parts : (walked bit_policy c from).stop ≡ Whole
        → ShiftBit (length pre) (length c) (bit_parts (walked bit_policy c from).slots) (bit_parts (walked bit_policy (pre ++ c) (length pre + from)).slots)
    unfolding bit_parts
    bit-parts w =
        let moves = slot-moved pre c bit_policy from w in
        record { index = moves 1 (omega arith); name = moves 2 (omega arith); on = moves 3 (omega arith) }
