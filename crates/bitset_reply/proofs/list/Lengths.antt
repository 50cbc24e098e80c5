-- How long BITS is: whole words, and at most 48 bytes for a BIT with a right name.
use Prim.Native.Nat.{ℕ, zero, suc, ◌*◌, ◌%◌, ◌≤◌, ◌<◌}
use mathlib.Core.Path.{◌≡◌, refl, ap, ◌∙◌}
use mathlib.Core.Bool.{Bool, true, false, cond}
use mathlib.Core.List.{List, [], ◌∷◌}
use lib.ListN.{length, get_or, length-append}
use native.Mathlib.Omega.{arith}
use borrow.Author.Tests.{eqb-true}
use Rattle.basics.proofs.Truth.{both_true}
use Rattle.entries.specs.Entry.{count, entry_at}
use Rattle.names.specs.Rule.{entry_right, names_right}
use Rattle.names.proofs.Rules.{right-means}
use Rattle.netlink.specs.Policy.{nul_at}
use Rattle.page.specs.Page.{Wrote}
use Rattle.index_name.specs.IndexName.{index_nest}
use Rattle.index_name.proofs.Laws.{index-name-whole, index-name-most, length-index-nest}
use Rattle.bitset_reply.specs.List.{bit_in, bits_bytes}

-- each entry below n has a NUL
abbrev pub Short : List ℕ → ℕ → Type 0
Short names n = (i : ℕ) → i < n → nul_at (entry_at names i) < 32

nul-before : (s : List ℕ) (k : ℕ) → get_or s k 0 ≡ 0 → nul_at s ≤ k
unfolding nul_at
nul-before [] k h = omega arith
nul-before (zero ∷ s) k h = omega arith
nul-before (suc b ∷ s) zero h = absurd (omega arith)
nul-before (suc b ∷ s) (suc k) h = omega (arith, nul-before s k h)

pub right-short : (names : List ℕ) → names_right names ≡ true → Short names (count names)
unfolding entry_right
right-short names h i l =
    let last : get_or (entry_at names i) 31 0 ≡ 0 = eqb-true _ 0 (both_true _ _ ((right-means names h).each i l)).0 in
    omega (arith, nul-before (entry_at names i) 31 last)

-- the BITs
module _ (names : List ℕ) (listed : ℕ → Bool) where
  bit_length : (i : ℕ) → (length (bit_in names listed i) % 4 ≡ 0) × (nul_at (entry_at names i) < 32 → length (bit_in names listed i) ≤ 48)
  unfolding bit_in
  bit_length i = go (listed i)
    where
      go : (t : Bool) → (length (cond t (index_nest 1 i (entry_at names i)) []) % 4 ≡ 0)
          × (nul_at (entry_at names i) < 32 → length (cond t (index_nest 1 i (entry_at names i)) []) ≤ 48)
      go true =
          let l = length-index-nest i (entry_at names i) 1 in
          let m = index-name-most i (entry_at names i) in
          (omega (arith, index-name-whole i (entry_at names i)), λ h. omega arith)
      go false = (refl, λ h. omega arith)

  pub bits-whole : (n : ℕ) → length (bits_bytes names listed n) % 4 ≡ 0
  unfolding bits_bytes
  bits-whole zero = refl
  bits-whole (suc n) =
      omega (arith, length-append (bits_bytes names listed n) (bit_in names listed n), bits-whole n, (bit_length n).0)

  -- so what was written can be closed as a nest
  pub bits-close : (P Q : List ℕ) (n k : ℕ) → Wrote (bits_bytes names listed n) P Q k → k % 4 ≡ 0
  bits-close P Q n k w = ap (λ (x : ℕ). x % 4) w.count ∙ bits-whole n

  pub bits_most : (n : ℕ) → Short names n → length (bits_bytes names listed n) ≤ n * 48
  unfolding bits_bytes
  bits_most zero h = omega arith
  bits_most (suc n) h =
      let b = (bit_length n).1 (h n (omega arith)) in
      omega (arith, length-append (bits_bytes names listed n) (bit_in names listed n), bits_most n (λ i l. h i (omega arith)))
