-- Demand 3: the form has the bitset's effect, two bitsets act alike exactly when their normal forms are equal bytes. Over every N and every list.
use Prim.Native.Nat.{ℕ}
use mathlib.Core.Path.{◌≡◌, refl, sym, ◌∙◌}
use mathlib.Core.Bool.{Bool, true, false, ◌&&◌, cond}
use lib.Dec.{ltb}
use native.Mathlib.Omega.{arith}
use borrow.Author.Tests.{le-ltb, ltb-false}
use Rattle.bits.specs.Change.{merge, Same, Below, Within, Alike, list_mask}
use Rattle.bits.proofs.Change.{list-is-merge, list-within}
use Rattle.bitset_form.specs.Bitset.{Bitset, effect, mask_of, value_of}
use Rattle.bitset_form.specs.Bitset.Bitset.{masked_bitmap, nomask_bitmap, masked_list, nomask_list}
use Rattle.normal.specs.Fits.{Fits}
use Rattle.normal.specs.Claims.{ActAlike}

-- the form has the bitset's effect on every starting set
pub form-keeps-effect : (n : ℕ) (b : Bitset) → Fits n b → (s : ℕ → Bool) → Below n s → Same (effect b s) (merge (mask_of n b) (value_of b) s)
unfolding effect mask_of value_of
form-keeps-effect n (masked_bitmap size value mask) f s h i = go (ltb i size) (mask i) (value i) (s i)
  where
    go : (z m v x : Bool) → cond (z && m) v x ≡ cond (z && m) (z && (m && v)) x
    go true true v x = refl
    go true false v x = refl
    go false m v x = refl
form-keeps-effect n (nomask_bitmap size value) f s h i = go (ltb i n) refl
  where
    go : (t : Bool) → ltb i n ≡ t → ltb i size && value i ≡ cond t (ltb i size && value i) (s i)
    go true e = refl
    go false e = let g = ltb-false i n e in f i g ∙ sym (h i g)
form-keeps-effect n (masked_list es) f s h i = list-is-merge es s i
form-keeps-effect n (nomask_list es) f s h i = go (ltb i n) refl
  where
    go : (t : Bool) → ltb i n ≡ t → list_mask es i ≡ cond t (list_mask es i) (s i)
    go true e = refl
    go false e = let g = ltb-false i n e in f i g ∙ sym (h i g)

-- the mask is below N, and the value within the mask
pub mask_below : (n : ℕ) (b : Bitset) → Fits n b → Below n (mask_of n b)
unfolding mask_of
mask_below n (masked_bitmap size value mask) f = f
mask_below n (nomask_bitmap size value) f = λ i h. le-ltb i n h
mask_below n (masked_list es) f = f
mask_below n (nomask_list es) f = λ i h. le-ltb i n h

pub value-within : (n : ℕ) (b : Bitset) → Fits n b → Within (value_of b) (mask_of n b)
unfolding mask_of value_of
value-within n (masked_bitmap size value mask) f = λ i h. go (ltb i size) (mask i) (value i) h
  where
    go : (z m v : Bool) → z && m ≡ false → z && (m && v) ≡ false
    go true true v h = absurd (let c : ◌≡◌ {A = ℕ} 0 1 = cc in omega arith)
    go true false v h = refl
    go false m v h = refl
value-within n (nomask_bitmap size value) f = λ i h. f i (ltb-false i n h)
value-within n (masked_list es) f = list-within es
value-within n (nomask_list es) f = λ i h. f i (ltb-false i n h)

module _ (n : ℕ) (b c : Bitset) (fb : Fits n b) (fc : Fits n c) where
  pub alike-merge : ActAlike n b c → Alike n (mask_of n b) (value_of b) (mask_of n c) (value_of c)
  alike-merge h s l i = sym (form-keeps-effect n b fb s l i) ∙ h s l i ∙ form-keeps-effect n c fc s l i

  pub merge-alike : Alike n (mask_of n b) (value_of b) (mask_of n c) (value_of c) → ActAlike n b c
  merge-alike h s l i = form-keeps-effect n b fb s l i ∙ h s l i ∙ sym (form-keeps-effect n c fc s l i)
