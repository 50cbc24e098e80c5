-- Masked changes of a set (document 01, "Bitsets": a bit in MASK takes VALUE's bit, the others stay).
use Rattle.std.specs.Prelude.{ℕ, ◌≤◌, ◌≡◌, Bool, false, ◌&&◌, ◌||◌, cond, List, [], ◌∷◌, eqb}
use Rattle.bits.specs.Set.{put_bit}

-- what a masked change makes of the set s
abbrev pub merge : (ℕ → Bool) → (ℕ → Bool) → (ℕ → Bool) → ℕ → Bool
merge mask value s i = cond (mask i) (value i) (s i)

-- the two sets have the same bits
abbrev pub Same : (ℕ → Bool) → (ℕ → Bool) → Type 0
Same f g = (i : ℕ) → f i ≡ g i

-- the set has no bit from N on (document 01, "Bitsets": "A starting set is any set of bits below N")
abbrev pub Below : ℕ → (ℕ → Bool) → Type 0
Below N s = (i : ℕ) → N ≤ i → s i ≡ false

-- every bit of the value is in the mask (document 01, "Bitsets", normal form: "every other bit of both is 0")
abbrev pub Within : (ℕ → Bool) → (ℕ → Bool) → Type 0
Within v m = (i : ℕ) → m i ≡ false → v i ≡ false

-- two changes make the same of every starting set (document 01, "Bitsets": "change it alike")
abbrev pub Alike : ℕ → (ℕ → Bool) → (ℕ → Bool) → (ℕ → Bool) → (ℕ → Bool) → Type 0
Alike N m v m' v' = (s : ℕ → Bool) → Below N s → Same (merge m v s) (merge m' v' s)

-- one bit that is set or cleared (document 01, "Bitsets": "Each listed bit becomes 1 .. else 0")
pub record Listed : Type 0 where
  pub bit : ℕ
  pub on : Bool

-- what a list of such bits makes of the set s, one after the other
unfoldable pub applied : List Listed → (ℕ → Bool) → ℕ → Bool
applied [] s = s
applied (e ∷ es) s = applied es (put_bit e.bit e.on s)

-- the bits that a list names
unfoldable pub list_mask : List Listed → ℕ → Bool
list_mask [] i = false
list_mask (e ∷ es) i = eqb i e.bit || list_mask es i

-- the values that they get (document 01, "Bitsets": "a later entry for the same bit wins")
unfoldable pub list_value : List Listed → ℕ → Bool
list_value [] i = false
list_value (e ∷ es) i = cond (list_mask es i) (list_value es i) (eqb i e.bit && e.on)
