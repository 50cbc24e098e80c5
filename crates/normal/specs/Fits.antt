-- No promise rests on this file: it is what the proofs know of an accepted bitset.
use Rattle.std.specs.Prelude.{ℕ, ◌&&◌, ltb}
use Rattle.bits.specs.Change.{Below, list_mask}
use Rattle.bitset_form.specs.Bitset.{Bitset}
use Rattle.bitset_form.specs.Bitset.Bitset.{masked_bitmap, nomask_bitmap, masked_list, nomask_list}

-- no bit that the bitset speaks of is at or past N: so much 20 and 21 leave of an accepted bitset
abbrev pub Fits : ℕ → Bitset → Type 0
Fits n (masked_bitmap size value mask) = Below n (λ i. ltb i size && mask i)
Fits n (nomask_bitmap size value) = Below n (λ i. ltb i size && value i)
Fits n (masked_list es) = Below n (list_mask es)
Fits n (nomask_list es) = Below n (list_mask es)
