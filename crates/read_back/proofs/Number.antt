-- Read back: an attribute that holds a number, wherever it stands.
use Prim.Native.Nat.{ℕ, ◌+◌, ◌<◌}
use mathlib.Core.Path.{◌≡◌, sym, ap, ◌∙◌}
use mathlib.Core.List.{List, [], ◌++◌, append_assoc}
use lib.ListN.{length, length-append}
use native.Mathlib.Omega.{arith}
use Rattle.basics.specs.Numbers.{le32, u32_at}
use Rattle.basics.proofs.Numbers.{u32-le32}
use Rattle.netlink_attributes.specs.Attributes.{attributes, part_of}
use Rattle.netlink_attributes.specs.Attributes.Attributes.{attribute}
use Rattle.netlink.specs.Walk.{found, slot_number}
use Rattle.netlink_write.specs.Attributes.{attr}
use Rattle.netlink_write.proofs.attributes.Laws.{length-attr}
use Rattle.read_back.proofs.Places.{payload-at, attribute-at}

module _ (s front rest : List ℕ) (kind n at a z : ℕ) (e : s ≡ front ++ (attr kind (le32 n) ++ rest)) (ea : at ≡ length front) (pa : a ≡ at + 4) (pz : z ≡ at + 8) where
  -- what stands behind it
  pub number-rest : s ≡ (front ++ attr kind (le32 n)) ++ rest
  number-rest = e ∙ sym (append_assoc front (attr kind (le32 n)) rest)

  -- and where
  pub number_past : z ≡ length (front ++ attr kind (le32 n))
  number_past = omega (arith, length-append front (attr kind (le32 n)), length-attr kind (le32 n))

  -- netlink reads it
  pub number_at : kind < 16384 → attributes s at ≡ attribute kind 0 a z (attributes s z)
  number_at small =
      attribute-at s front rest (le32 n) kind at e ea a z z small (omega arith) pa (omega arith) (omega (arith, length-attr kind (le32 n)))

  -- its payload
  pub number-payload : part_of s a z ≡ le32 n
  number-payload = payload-at s front rest (le32 n) kind at e ea a z pa (omega arith)

  -- its number
  pub number-back : n < 4294967296 → slot_number s (found a z) ≡ n
  unfolding slot_number
  number-back few = ap (λ (x : List ℕ). u32_at x 0) number-payload ∙ u32-le32 n [] few
