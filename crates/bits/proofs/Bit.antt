-- Laws of the bits of a number: of `and`, `or`, `not`, of a power of two and of what is below it, and that the bits say what the number is.
use Prim.Native.Nat.{ℕ, zero, suc, ◌+◌, ◌-◌, ◌*◌, ◌/◌, ◌%◌, ◌^◌, ◌<◌, suc-le-suc, min, max}
use mathlib.Core.Path.{◌≡◌, refl, sym, ap, ◌∙◌}
use mathlib.Core.Bool.{Bool, true, false, ◌&&◌}
use native.Mathlib.Nat.{not-suc-le-zero, le_of_suc-le-suc, mod-lt, div-one, pow-suc, zero-lt-suc, zero-div, zero-min, one-mul}
use native.Mathlib.Numerals.{one-add}
use native.Mathlib.Omega.{arith}
use lib.Dec.{eqb, ltb, leb-suc-zero, leb-suc-suc, eqb-zero-suc, eqb-suc-zero, eqb-suc-suc}
use borrow.Author.Tests.{lt-ltb}
use lib.Arith.{digits_div, digits_mod}
use lib.Pow.{shr-shr, shl_exact, pow_pos, field, mod-mod-pow}
use lib.Bits.{bit_and, bit_or, and_shr, or_shr, and_step, or_step}
use Rattle.bits.specs.Bit.{bit, test, digit, number}

pub bit-lt : (x i : ℕ) → bit x i < 2
bit-lt x i = mod-lt (x / 2 ^ i) (zero-lt-suc 1)

pub bit-zero : (x : ℕ) → bit x 0 ≡ x % 2
bit-zero x = ap (λ (y : ℕ). y % 2) (div-one x)

pub bit-suc : (x i : ℕ) → bit x (suc i) ≡ bit (x / 2) i
bit-suc x i = ap (λ (y : ℕ). x / 2 ^ y % 2) (sym (one-add i)) ∙ ap (λ (y : ℕ). y % 2) (sym (shr-shr x 1 i))

-- the last digit of a bitwise operation
last : (q r : ℕ) → r < 2 → (q * 2 + r) % 2 ≡ r
last q r h = digits_mod q h

pub bit-and : (a b i : ℕ) → bit (bit_and a b) i ≡ min (bit a i) (bit b i)
bit-and a b i =
    ap (λ (y : ℕ). y % 2) (and_shr a b i ∙ and_step (a / 2 ^ i) (b / 2 ^ i))
    ∙ last (bit_and (a / 2 ^ i / 2) (b / 2 ^ i / 2)) (min (bit a i) (bit b i)) (omega (arith, bit-lt a i, bit-lt b i))

pub bit-or : (a b i : ℕ) → bit (bit_or a b) i ≡ max (bit a i) (bit b i)
bit-or a b i =
    ap (λ (y : ℕ). y % 2) (or_shr a b i ∙ or_step (a / 2 ^ i) (b / 2 ^ i))
    ∙ last (bit_or (a / 2 ^ i / 2) (b / 2 ^ i / 2)) (max (bit a i) (bit b i)) (omega (arith, bit-lt a i, bit-lt b i))

-- the complement within k bits
pub bit_not : (k a i : ℕ) → a < 2 ^ k → i < k → bit (2 ^ k - 1 - a) i ≡ 1 - bit a i
bit_not zero a i h l = absurd (not-suc-le-zero l)
bit_not (suc k) a zero h l =
    let p : 2 ^ suc k ≡ 2 ^ k * 2 = pow-suc 2 k in
    bit-zero (2 ^ suc k - 1 - a) ∙ omega (arith, pow_pos k) ∙ ap (λ (y : ℕ). 1 - y) (sym (bit-zero a))
bit_not (suc k) a (suc i) h l =
    let p : 2 ^ suc k ≡ 2 ^ k * 2 = pow-suc 2 k in
    let half : (2 ^ suc k - 1 - a) / 2 ≡ 2 ^ k - 1 - a / 2 = omega (arith, pow_pos k) in
    bit-suc (2 ^ suc k - 1 - a) i ∙ ap (λ (y : ℕ). bit y i) half
    ∙ bit_not k (a / 2) i (omega (arith, p)) (le_of_suc-le-suc l)
    ∙ ap (λ (y : ℕ). 1 - y) (sym (bit-suc a i))

-- two numbers of k bits that agree at each bit are equal
pub bit-ext : (k x y : ℕ) → x < 2 ^ k → y < 2 ^ k → ((i : ℕ) → i < k → bit x i ≡ bit y i) → x ≡ y
bit-ext zero x y hx hy e = omega arith
bit-ext (suc k) x y hx hy e =
    let p : 2 ^ suc k ≡ 2 ^ k * 2 = pow-suc 2 k in
    let halves : x / 2 ≡ y / 2 =
    bit-ext k (x / 2) (y / 2) (omega (arith, p)) (omega (arith, p))
    (λ i l. sym (bit-suc x i) ∙ e (suc i) (suc-le-suc l) ∙ bit-suc y i) in
    let lows : x % 2 ≡ y % 2 = sym (bit-zero x) ∙ e 0 (zero-lt-suc k) ∙ bit-zero y in
    omega (arith, halves, lows)

digit_lt : (b : Bool) → digit b < 2
digit_lt true = omega arith
digit_lt false = omega arith

pub number_lt : (k : ℕ) (f : ℕ → Bool) → number k f < 2 ^ k
unfolding number
number_lt zero f = omega arith
number_lt (suc k) f =
    let p : 2 ^ suc k ≡ 2 ^ k * 2 = pow-suc 2 k in
    omega (arith, p, number_lt k (λ i. f (suc i)), digit_lt (f 0))

pub bit-number : (k : ℕ) (f : ℕ → Bool) (i : ℕ) → i < k → bit (number k f) i ≡ digit (f i)
unfolding number
bit-number zero f i l = absurd (not-suc-le-zero l)
bit-number (suc k) f zero l = bit-zero (number (suc k) f) ∙ digits_mod (number k (λ i. f (suc i))) (digit_lt (f 0))
bit-number (suc k) f (suc i) l =
    bit-suc (number (suc k) f) i
    ∙ ap (λ (y : ℕ). bit y i) (digits_div (number k (λ i. f (suc i))) (digit_lt (f 0)))
    ∙ bit-number k (λ i. f (suc i)) i (le_of_suc-le-suc l)

zero_bit : (i : ℕ) → bit 0 i ≡ 0
zero_bit i = ap (λ (y : ℕ). y % 2) (zero-div (2 ^ i))

-- a power of two has one bit
pub bit-pow : (k i : ℕ) → bit (2 ^ k) i ≡ digit (eqb i k)
bit-pow zero zero = refl
bit-pow zero (suc i) = bit-suc 1 i ∙ zero_bit i ∙ sym (ap digit (eqb-suc-zero i))
bit-pow (suc k) zero =
    bit-zero (2 ^ suc k) ∙ ap (λ (y : ℕ). y % 2) (pow-suc 2 k) ∙ (let z : 2 ^ k * 2 % 2 ≡ 0 = omega arith in z)
    ∙ sym (ap digit (eqb-zero-suc k))
bit-pow (suc k) (suc i) =
    bit-suc (2 ^ suc k) i ∙ ap (λ (y : ℕ). bit (y / 2) i) (pow-suc 2 k)
    ∙ ap (λ (y : ℕ). bit y i) (let z : 2 ^ k * 2 / 2 ≡ 2 ^ k = omega arith in z) ∙ bit-pow k i
    ∙ sym (ap digit (eqb-suc-suc i k))

-- the number below a power of two has all bits below it
pub bit-ones : (k i : ℕ) → bit (2 ^ k - 1) i ≡ digit (ltb i k)
bit-ones zero i = zero_bit i ∙ sym (ap digit (leb-suc-zero i))
bit-ones (suc k) zero =
    let p : 2 ^ suc k ≡ 2 ^ k * 2 = pow-suc 2 k in
    let z : (2 ^ suc k - 1) % 2 ≡ 1 = omega (arith, pow_pos k) in
    bit-zero (2 ^ suc k - 1) ∙ z ∙ sym (ap digit (lt-ltb 0 (suc k) (zero-lt-suc k)))
bit-ones (suc k) (suc i) =
    let p : 2 ^ suc k ≡ 2 ^ k * 2 = pow-suc 2 k in
    let half : (2 ^ suc k - 1) / 2 ≡ 2 ^ k - 1 = omega (arith, pow_pos k) in
    bit-suc (2 ^ suc k - 1) i ∙ ap (λ (y : ℕ). bit y i) half ∙ bit-ones k i ∙ sym (ap digit (leb-suc-suc (suc i) k))

-- a digit and its test say the same
pub digit-test : (x : ℕ) → x < 2 → digit (eqb x 1) ≡ x
digit-test zero h = refl
digit-test (suc zero) h = refl
digit-test (suc (suc x)) h = absurd (omega arith)

pub test-digit : (b : Bool) → eqb (digit b) 1 ≡ b
test-digit true = refl
test-digit false = refl

-- two numbers of k bits whose tests agree are equal
pub test-number : (k : ℕ) (f : ℕ → Bool) (i : ℕ) → i < k → test (number k f) i ≡ f i
test-number k f i h = ap (λ (x : ℕ). eqb x 1) (bit-number k f i h) ∙ test-digit (f i)

pub number-ext : (k x : ℕ) (f : ℕ → Bool) → x < 2 ^ k → ((i : ℕ) → i < k → test x i ≡ f i) → x ≡ number k f
number-ext k x f h e =
    bit-ext k x (number k f) h (number_lt k f)
    (λ i l. sym (digit-test (bit x i) (bit-lt x i)) ∙ ap digit (e i l) ∙ sym (bit-number k f i l))

pub number-cong : (k : ℕ) (f g : ℕ → Bool) → ((i : ℕ) → i < k → f i ≡ g i) → number k f ≡ number k g
number-cong k f g e = number-ext k (number k f) g (number_lt k f) (λ i l. test-number k f i l ∙ e i l)

-- the bits that two numbers share
pub test-and : (a b i : ℕ) → test (bit_and a b) i ≡ test a i && test b i
test-and a b i = ap (λ (x : ℕ). eqb x 1) (bit-and a b i) ∙ both (bit a i) (bit b i) (bit-lt a i) (bit-lt b i)
  where
    both : (x y : ℕ) → x < 2 → y < 2 → eqb (min x y) 1 ≡ eqb x 1 && eqb y 1
    both zero y hx hy = ap (λ (z : ℕ). eqb z 1) (zero-min y)
    both (suc zero) zero hx hy = refl
    both (suc zero) (suc zero) hx hy = refl
    both (suc zero) (suc (suc y)) hx hy = absurd (omega arith)
    both (suc (suc x)) y hx hy = absurd (omega arith)

-- `1 << k` at 32 bits
pub shl_one : (k : ℕ) → k < 32 → (1 * 2 ^ k) % 2 ^ 32 ≡ 2 ^ k
shl_one k h = shl_exact 1 k 32 (omega arith) (omega arith) ∙ one-mul (2 ^ k)

pub test-one : (k i : ℕ) → k < 32 → test ((1 * 2 ^ k) % 2 ^ 32) i ≡ eqb i k
test-one k i h =
    ap (λ (y : ℕ). test y i) (shl_one k h) ∙ ap (λ (y : ℕ). eqb y 1) (bit-pow k i) ∙ test-digit (eqb i k)

pub test-ones : (k i : ℕ) → test (2 ^ k - 1) i ≡ ltb i k
test-ones k i = ap (λ (y : ℕ). eqb y 1) (bit-ones k i) ∙ test-digit (ltb i k)

pub test_zero : (i : ℕ) → test 0 i ≡ false
test_zero i = ap (λ (y : ℕ). eqb y 1) (zero_bit i)

-- the bits below k are those of the number's lowest k bits
pub test_low : (k x i : ℕ) → i < k → test (x % 2 ^ k) i ≡ test x i
test_low k x i h =
    let e : k - i ≡ (k - i - 1) + 1 = omega arith in
    let f : k ≡ (k - i) + i = omega arith in
    ap (λ (y : ℕ). eqb y 1)
    (ap (λ (n : ℕ). x % 2 ^ n / 2 ^ i % 2) f ∙ ap (λ (y : ℕ). y % 2) (field x (k - i) i)
    ∙ ap (λ (n : ℕ). x / 2 ^ i % 2 ^ n % 2) e ∙ mod-mod-pow (x / 2 ^ i) (k - i - 1) 1)
