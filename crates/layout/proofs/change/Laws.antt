-- A law of changing one set.
use Prim.Native.Nat.{ℕ}
use mathlib.Core.Path.{◌≡◌, ap, ◌∙◌}
use mathlib.Core.List.{List}
use lib.ListN.{length, take, drop}
use Rattle.basics.specs.Put.{splice}
use Rattle.bits.specs.Set.{has, words_of}
use Rattle.bits.specs.Change.{merge}

-- as many words as the mask has
pub apply-is : (ws mask value new : List ℕ) (at w : ℕ) → length (take w mask) ≡ w
    → new ≡ splice at ws (words_of (length (take w mask)) (merge (has (take w mask)) (has (take w value)) (has (take (length (take w mask)) (drop at ws)))))
    → new ≡ splice at ws (words_of w (merge (has (take w mask)) (has (take w value)) (has (take w (drop at ws)))))
apply-is ws mask value new at w l e = e ∙ ap (λ (k : ℕ). splice at ws (words_of k (merge (has (take w mask)) (has (take w value)) (has (take k (drop at ws)))))) l
