-- The law of a compact bitset with a MASK that is accepted.
use Rattle.std.specs.Prelude.{Ok}
use Prim.Native.Nat.{ℕ, ◌/◌, ◌≤◌}
use mathlib.Core.Path.{◌≡◌, ap, ◌∙◌}
use mathlib.Core.List.{List}
use mathlib.Core.Bool.{Bool, false, ◌&&◌, not, and_assoc}
use lib.ListN.{length}
use lib.Dec.{ltb}
use borrow.Author.Tests.{le-ltb}
use Rattle.bits.specs.Set.{has, words_of, words_for, some_past}
use Rattle.bits.proofs.Words.{has-words_of, words_of-cong}
use Rattle.word_bytes.specs.Bytes.{words_in}
use Rattle.netlink_attributes.specs.Attributes.{part_of}
use Rattle.bitset_form.specs.declared.parts.BitsetParts.{BitsetParts}
use Rattle.bitset_form.specs.Form.{cut_at, both, judged_as}
use Rattle.bitset_form.specs.Bitset.{mask_of, value_of}
use Rattle.bitset_compact.specs.Compact.{masked_reading}

module _ (s : List ℕ) (nest n size : ℕ) (parts : BitsetParts) (p q : List ℕ) (ep : p ≡ part_of s parts.value.start parts.value.end)
    (eq : q ≡ part_of s parts.mask.start parts.mask.end) (w : ℕ) (ew : w ≡ words_for size) where
  pub masked_right : not parts.mask.present ≡ false → w ≤ length p / 4 → w ≤ length q / 4 → some_past (has (words_in q)) n size ≡ false
      → (m v : List ℕ) → m ≡ words_of 16 (cut_at size (has (words_in q))) → v ≡ words_of 16 (both (has m) (has (words_in p)))
      → Ok (record { mask = m; value = v }) ≡ judged_as n (masked_reading s nest n size parts)
  unfolding judged_as masked_reading mask_of value_of cut_at both
  masked_right there h g none m v em ev =
      rw (em, value) (rw (there, ← ep, ← eq, value-long, mask-long, none))
    where
      value-long : ltb (length p / 4) (words_for size) ≡ false
      value-long = le-ltb (length p / 4) (words_for size) (rw ew at h)

      mask-long : ltb (length q / 4) (words_for size) ≡ false
      mask-long = le-ltb (length q / 4) (words_for size) (rw ew at g)

      value : v ≡ words_of 16 (λ i. ltb i size && (has (words_in q) i && has (words_in p) i))
      value =
          ev ∙ words_of-cong 16 _ _
          (λ i l. ap (λ (x : Bool). x && has (words_in p) i) (ap (λ (ws : List ℕ). has ws i) em ∙ has-words_of 16 _ i l)
          ∙ and_assoc (ltb i size) (has (words_in q) i) (has (words_in p) i))
