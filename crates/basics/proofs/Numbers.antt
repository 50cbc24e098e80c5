-- A number of 16 or 32 bits and its bytes say the same.
use Prim.Native.Nat.{ℕ, ◌+◌, ◌*◌, ◌/◌, ◌%◌, ◌<◌, ◌≤◌, zero, suc}
use mathlib.Core.Path.{◌≡◌, refl, sym, ap, ◌∙◌}
use mathlib.Core.List.{List, [], ◌∷◌, ◌++◌}
use native.Mathlib.Nat.{div-div-eq-div-mul, mod-eq_of_lt}
use native.Mathlib.Numerals.{add-one}
use native.Mathlib.Omega.{arith}
use lib.ListN.{length, get_or, take, drop}
use lib.Seq.{get_or-append-add, drop-cons}
use Rattle.basics.specs.Numbers.{byte_at, u16_at, u32_at, le16, le32}

-- a number, or its lowest 32 bits, by its digits to the base 256
pub digits16 : (x : ℕ) → x < 65536 → x % 256 + x / 256 % 256 * 256 ≡ x
digits16 x h = omega arith

pub digits_low : (x : ℕ) → x % 256 + x / 256 % 256 * 256 + x / 65536 % 256 * 65536 + x / 16777216 % 256 * 16777216 ≡ x % 4294967296
digits_low x =
    let two : x / 256 / 256 ≡ x / 65536 = div-div-eq-div-mul x 256 256 in
    let three : x / 65536 / 256 ≡ x / 16777216 = div-div-eq-div-mul x 65536 256 in
    digits x (x / 256) (x / 65536) (x / 16777216) refl (sym two) (sym three)
  where
    digits : (x a b c : ℕ) → a ≡ x / 256 → b ≡ a / 256 → c ≡ b / 256
        → x % 256 + a % 256 * 256 + b % 256 * 65536 + c % 256 * 16777216 ≡ x % 4294967296
    digits x a b c p q r = omega arith

pub digits32 : (x : ℕ) → x < 4294967296 → x % 256 + x / 256 % 256 * 256 + x / 65536 % 256 * 65536 + x / 16777216 % 256 * 16777216 ≡ x
digits32 x h = digits_low x ∙ mod-eq_of_lt h

pub u16-le16 : (x : ℕ) (s : List ℕ) → x < 65536 → u16_at (le16 x ++ s) 0 ≡ x
unfolding u16_at
u16-le16 x s h = digits16 x h

pub u32-le32 : (x : ℕ) (s : List ℕ) → x < 4294967296 → u32_at (le32 x ++ s) 0 ≡ x
unfolding u32_at
u32-le32 x s h = digits32 x h

-- a number that stands n bytes past a list of bytes
module _ (pre s : List ℕ) (at n : ℕ) (e : at ≡ length pre + n) where
  past : (k : ℕ) → get_or (pre ++ s) (at + k) 0 ≡ get_or s (n + k) 0
  past k =
      let f : at + k ≡ length pre + (n + k) = omega arith in
      ap (λ (m : ℕ). get_or (pre ++ s) m 0) f ∙ get_or-append-add pre s (n + k) 0

  here : get_or (pre ++ s) at 0 ≡ get_or s n 0
  here = ap (λ (m : ℕ). get_or (pre ++ s) m 0) e ∙ get_or-append-add pre s n 0

  pub byte_past : byte_at (pre ++ s) at ≡ byte_at s n
  unfolding byte_at
  byte_past = here

  pub u16-past : u16_at (pre ++ s) at ≡ u16_at s n
  unfolding u16_at
  u16-past = rw (here, past 1)

  pub u32-past : u32_at (pre ++ s) at ≡ u32_at s n
  unfolding u32_at
  u32-past = rw (here, past 1, past 2, past 3)

-- a number that was written is read again
module _ (pre post : List ℕ) (x : ℕ) where
  zeroth : length pre ≡ length pre + 0
  zeroth = omega arith

  pub u16-back : x < 65536 → u16_at (pre ++ (le16 x ++ post)) (length pre) ≡ x
  u16-back h = u16-past pre (le16 x ++ post) (length pre) 0 zeroth ∙ u16-le16 x post h

  pub u32-back : x < 4294967296 → u32_at (pre ++ (le32 x ++ post)) (length pre) ≡ x
  u32-back h = u32-past pre (le32 x ++ post) (length pre) 0 zeroth ∙ u32-le32 x post h

-- four bytes of a list, one by one
pub drop-four : (s : List ℕ) (p : ℕ) → p + 4 ≤ length s
    → drop p s ≡ get_or s p 0 ∷ get_or s (p + 1) 0 ∷ get_or s (p + 2) 0 ∷ get_or s (p + 3) 0 ∷ drop (p + 4) s
drop-four s p h =
    next p (p + 1) refl (omega arith) (next (p + 1) (p + 2) (omega arith) (omega arith) (next (p + 2) (p + 3) (omega arith) (omega arith) (next (p + 3) (p + 4) (omega arith) (omega arith) refl)))
  where
    next : (q r : ℕ) {l : List ℕ} → r ≡ q + 1 → q < length s → drop r s ≡ l → drop q s ≡ get_or s q 0 ∷ l
    next q r {l} e u k = drop-cons s q 0 u ∙ ap (λ (x : List ℕ). get_or s q 0 ∷ x) (ap (λ (m : ℕ). drop m s) (sym (add-one q) ∙ sym e) ∙ k)

-- they are those of the number that they make
pub four_bytes : (s : List ℕ) → ((i : ℕ) → get_or s i 0 < 256) → (p : ℕ) → p + 4 ≤ length s → take 4 (drop p s) ≡ le32 (u32_at s p)
unfolding u32_at
four_bytes s small p h =
    ap (take 4) (drop-four s p h)
    ∙ digits (get_or s p 0) (get_or s (p + 1) 0) (get_or s (p + 2) 0) (get_or s (p + 3) 0) (small p) (small (p + 1)) (small (p + 2)) (small (p + 3))
  where
    digits : (a b c d : ℕ) → a < 256 → b < 256 → c < 256 → d < 256 → a ∷ b ∷ c ∷ d ∷ [] ≡ le32 (a + b * 256 + c * 65536 + d * 16777216)
    digits a b c d ha hb hc hd =
        let x0 : (a + b * 256 + c * 65536 + d * 16777216) % 256 ≡ a = omega arith in
        let y1 : (a + b * 256 + c * 65536 + d * 16777216) / 256 ≡ b + c * 256 + d * 65536 = omega arith in
        let y2 : (a + b * 256 + c * 65536 + d * 16777216) / 65536 ≡ c + d * 256 = omega arith in
        let y3 : (a + b * 256 + c * 65536 + d * 16777216) / 16777216 ≡ d = omega arith in
        let x1 : (b + c * 256 + d * 65536) % 256 ≡ b = omega arith in
        let x2 : (c + d * 256) % 256 ≡ c = omega arith in
        let x3 : d % 256 ≡ d = omega arith in
        sym (rw (x0, y1, y2, y3, x1, x2, x3))

-- equal numbers are of equal bytes
lowest : (a x b y : ℕ) → a < 256 → b < 256 → a + x * 256 ≡ b + y * 256 → (a ≡ b) × (x ≡ y)
lowest a x b y ha hb e = (omega arith, omega arith)

pub same-four : (a b : List ℕ) (p : ℕ) → ((j : ℕ) → j < 3 → get_or a (p + j) 0 < 256) → ((j : ℕ) → j < 3 → get_or b (p + j) 0 < 256) → u32_at a p ≡ u32_at b p
    → (j : ℕ) → j < 4 → get_or a (p + j) 0 ≡ get_or b (p + j) 0
unfolding u32_at
same-four a b p sa sb e =
    let start : p + 0 ≡ p = omega arith in
    let first = lowest (get_or a p 0) (get_or a (p + 1) 0 + get_or a (p + 2) 0 * 256 + get_or a (p + 3) 0 * 65536) (get_or b p 0) (get_or b (p + 1) 0 + get_or b (p + 2) 0 * 256 + get_or b (p + 3) 0 * 65536) (rw start at (sa 0 (omega arith))) (rw start at (sb 0 (omega arith))) (omega arith) in
    let second = lowest (get_or a (p + 1) 0) (get_or a (p + 2) 0 + get_or a (p + 3) 0 * 256) (get_or b (p + 1) 0) (get_or b (p + 2) 0 + get_or b (p + 3) 0 * 256) (sa 1 (omega arith)) (sb 1 (omega arith)) (omega (arith, first.1)) in
    let third = lowest (get_or a (p + 2) 0) (get_or a (p + 3) 0) (get_or b (p + 2) 0) (get_or b (p + 3) 0) (sa 2 (omega arith)) (sb 2 (omega arith)) (omega (arith, second.1)) in
    each first.0 second.0 third.0 third.1
  where
    each : get_or a p 0 ≡ get_or b p 0 → get_or a (p + 1) 0 ≡ get_or b (p + 1) 0 → get_or a (p + 2) 0 ≡ get_or b (p + 2) 0 → get_or a (p + 3) 0 ≡ get_or b (p + 3) 0
        → (j : ℕ) → j < 4 → get_or a (p + j) 0 ≡ get_or b (p + j) 0
    each e0 e1 e2 e3 zero h = let z : p + 0 ≡ p = omega arith in rw z e0
    each e0 e1 e2 e3 (suc zero) h = e1
    each e0 e1 e2 e3 (suc (suc zero)) h = e2
    each e0 e1 e2 e3 (suc (suc (suc zero))) h = e3
    each e0 e1 e2 e3 (suc (suc (suc (suc j)))) h = absurd (omega arith)
