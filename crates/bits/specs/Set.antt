-- Sets of bits, and the 32-bit words that hold them, lowest first (document 01, "The box a call is given": "Port settings are lent as 32-bit words").
use Rattle.std.specs.Prelude.{ℕ, zero, suc, ◌+◌, ◌*◌, ◌/◌, ◌%◌, Bool, ◌&&◌, ◌||◌, not, cond, List, [], ◌∷◌, get_or, length, eqb, leb, ltb}
use Rattle.basics.specs.Scan.{all, any}
use Rattle.bits.specs.Bit.{test, number}

-- the set that the words hold: a bit past them is not in it
unfoldable pub has : List ℕ → ℕ → Bool
has ws i = test (get_or ws (i / 32) 0) (i % 32)

-- word j of the words that hold a set
abbrev pub word_of : (ℕ → Bool) → ℕ → ℕ
word_of f j = number 32 (λ b. f (j * 32 + b))

-- the first w words that hold a set
unfoldable pub words_of : ℕ → (ℕ → Bool) → List ℕ
words_of zero f = []
words_of (suc w) f = number 32 f ∷ words_of w (λ i. f (32 + i))

-- the words of a set of n bits (document 01, "The box a call is given": "N/32 rounded up")
abbrev pub words_for : ℕ → ℕ
words_for n = (n + 31) / 32

-- the set of all bits below n
abbrev pub all_below : ℕ → ℕ → Bool
all_below n i = ltb i n

-- the bits of a set below n
abbrev pub cut : ℕ → (ℕ → Bool) → ℕ → Bool
cut n f i = f i && all_below n i

-- the set s with bit n in it or not, as v says
abbrev pub put_bit : ℕ → Bool → (ℕ → Bool) → ℕ → Bool
put_bit n v s i = cond (eqb i n) v (s i)

-- bit i is below n or not in the set
unfoldable pub clear_from : ℕ → (ℕ → Bool) → ℕ → Bool
clear_from n f i = ltb i n || not (f i)

-- no bit of the words is at or past n (document 01, "The box a call is given": "bits from N on are 0")
unfoldable pub none_from : List ℕ → ℕ → Bool
none_from ws n = all (length ws * 32) (clear_from n (has ws))

-- bit i is in the set, at or past n
unfoldable pub past : ℕ → (ℕ → Bool) → ℕ → Bool
past n f i = leb n i && f i

-- a bit i with n ≤ i < size is in the set (document 01, "Bitsets", refusal 20 for a bitmap)
unfoldable pub some_past : (ℕ → Bool) → ℕ → ℕ → Bool
some_past f n size = any size (past n f)
