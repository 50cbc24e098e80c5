-- Document 01, "Bitsets": what an accepted bitset says, what it makes of a starting set, and the mask and value of its normal form.
use Rattle.std.specs.Prelude.{ℕ, Bool, ◌&&◌, cond, List, ltb}
use Rattle.bits.specs.Set.{all_below}
use Rattle.bits.specs.Change.{Listed, applied, list_mask, list_value}
use Rattle.refusal.specs.declared.Refusal.{Refusal}

-- an accepted bitset: compact with SIZE, VALUE and MASK; compact under NOMASK with SIZE and VALUE; a bit list; a bit list under NOMASK
pub data Bitset : Type 0 where
  masked_bitmap : (size : ℕ) (value mask : ℕ → Bool) → Bitset
  nomask_bitmap : (size : ℕ) (value : ℕ → Bool) → Bitset
  masked_list : List Listed → Bitset
  nomask_list : List Listed → Bitset

-- "Masked: bits in MASK take VALUE's bit", of the bits below SIZE; "NOMASK: bits below SIZE take VALUE, the rest become 0"; "Each listed bit
-- becomes 1 if its VALUE flag stands, else 0; a later entry for the same bit wins"; "NOMASK: listed bits 1, all others 0"
unfoldable pub effect : Bitset → (ℕ → Bool) → ℕ → Bool
effect (masked_bitmap size value mask) s i = cond (ltb i size && mask i) (value i) (s i)
effect (nomask_bitmap size value) s i = ltb i size && value i
effect (masked_list es) s i = applied es s i
effect (nomask_list es) s i = list_mask es i

-- normal form: "MASK holds every bit below N for a NOMASK bitset, else exactly the original's MASK bits below SIZE, or its listed bits"
unfoldable pub mask_of : ℕ → Bitset → ℕ → Bool
mask_of n (masked_bitmap size value mask) i = ltb i size && mask i
mask_of n (nomask_bitmap size value) i = all_below n i
mask_of n (masked_list es) i = list_mask es i
mask_of n (nomask_list es) i = all_below n i

-- normal form: "VALUE holds the values that these bits get by the rules above, and every other bit of both is 0"
unfoldable pub value_of : Bitset → ℕ → Bool
value_of (masked_bitmap size value mask) i = ltb i size && (mask i && value i)
value_of (nomask_bitmap size value) i = ltb i size && value i
value_of (masked_list es) i = list_value es i
value_of (nomask_list es) i = list_mask es i

-- what judging a bitset gives: the first refusal in order, or what the bitset says
pub data Reading : Type 0 where
  refused : Refusal → Reading
  accepted : Bitset → Reading
