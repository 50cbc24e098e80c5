-- Laws of the words that hold a set, for any number of words: each fact about words is turned into one about bits.
use Prim.Native.Nat.{ℕ, zero, suc, ◌+◌, ◌*◌, ◌/◌, ◌%◌, ◌^◌, ◌≤◌, ◌<◌}
use mathlib.Core.Path.{◌≡◌, refl, sym, ap, ap₂, ◌∙◌, subst, fun_ext}
use mathlib.Core.Logic.{◌≢◌, ⊎_elim}
use mathlib.Core.Bool.{Bool, true, false, cond}
use mathlib.Core.List.{List, ◌∷◌}
use native.Mathlib.Nat.{not-suc-le-zero, le_of_suc-le-suc}
use native.Mathlib.Decide.{ℕ_discrete}
use native.Mathlib.Omega.{arith}
use lib.Dec.{eqb}
use lib.ListN.{length, get_or, take, set, length-set, get_or-eq_default}
use lib.Seq.{ext_get_or, get_or-set_same, get_or-set_other}
use borrow.Author.Tests.{eqb-true, eq-eqb, ne_eqb}
use Rattle.basics.proofs.Order.{lt-or-ge}
use Rattle.bits.specs.Bit.{test, number}
use Rattle.bits.specs.Set.{has, word_of, words_of, put_bit}
use Rattle.bits.specs.Change.{Same, Below}
use Rattle.bits.proofs.Bit.{test-number, number-ext, number-cong, test-one, test_zero}

pub length-words_of : (w : ℕ) (f : ℕ → Bool) → length (words_of w f) ≡ w
unfolding words_of
length-words_of zero f = refl
length-words_of (suc w) f = ap suc (length-words_of w (λ i. f (32 + i)))

pub get_or-words_of : (w : ℕ) (f : ℕ → Bool) (j : ℕ) → j < w → get_or (words_of w f) j 0 ≡ word_of f j
unfolding words_of
get_or-words_of zero f j h = absurd (not-suc-le-zero h)
get_or-words_of (suc w) f zero h = ap (number 32) (fun_ext (λ b. ap f (omega arith)))
get_or-words_of (suc w) f (suc j) h =
    get_or-words_of w (λ i. f (32 + i)) j (le_of_suc-le-suc h) ∙ ap (number 32) (fun_ext (λ b. ap f (omega arith)))

pub has-words_of : (w : ℕ) (f : ℕ → Bool) (i : ℕ) → i < w * 32 → has (words_of w f) i ≡ f i
unfolding has
has-words_of w f i h =
    ap (λ (x : ℕ). test x (i % 32)) (get_or-words_of w f (i / 32) (omega arith))
    ∙ test-number 32 (λ b. f (i / 32 * 32 + b)) (i % 32) (omega arith)
    ∙ ap f (omega arith)

-- a bit past the words is not in their set
pub has-past : (ws : List ℕ) (i : ℕ) → length ws ≤ i / 32 → has ws i ≡ false
unfolding has
has-past ws i h = ap (λ (x : ℕ). test x (i % 32)) (get_or-eq_default ws 0 h) ∙ test_zero (i % 32)

pub has_word : (ws : List ℕ) (j b : ℕ) → b < 32 → has ws (j * 32 + b) ≡ test (get_or ws j 0) b
unfolding has
has_word ws j b h =
    let q : (j * 32 + b) / 32 ≡ j = omega arith in
    let r : (j * 32 + b) % 32 ≡ b = omega arith in
    ap₂ (λ (x y : ℕ). test (get_or ws x 0) y) q r

-- words are known by their bits
pub words-ext : (ws : List ℕ) (f : ℕ → Bool) → ((j : ℕ) → j < length ws → get_or ws j 0 < 2 ^ 32)
    → ((j b : ℕ) → j < length ws → b < 32 → test (get_or ws j 0) b ≡ f (j * 32 + b)) → ws ≡ words_of (length ws) f
words-ext ws f small same =
    ext_get_or 0 ws (words_of (length ws) f) (sym (length-words_of (length ws) f))
    (λ j h. number-ext 32 (get_or ws j 0) (λ b. f (j * 32 + b)) (small j h) (λ b l. same j b h l)
    ∙ sym (get_or-words_of (length ws) f j h))

-- fewer words
pub take-words_of : (k w : ℕ) (f : ℕ → Bool) → k ≤ w → take k (words_of w f) ≡ words_of k f
unfolding words_of
take-words_of zero w f h = refl
take-words_of (suc k) zero f h = absurd (not-suc-le-zero h)
take-words_of (suc k) (suc w) f h = ap (λ (ws : List ℕ). number 32 f ∷ ws) (take-words_of k w (λ i. f (32 + i)) (le_of_suc-le-suc h))

-- a set that ends with the words is what they hold
pub has_all : (w : ℕ) (f : ℕ → Bool) → Below (w * 32) f → Same (has (words_of w f)) f
has_all w f b i =
    ⊎_elim
    (λ (q : i < w * 32). has-words_of w f i q)
    (λ (q : w * 32 ≤ i). has-past (words_of w f) i (omega (arith, length-words_of w f)) ∙ sym (b i q))
    (lt-or-ge i (w * 32))

-- one word replaced
pub set_words : (ws : List ℕ) (f : ℕ → Bool) (q r : ℕ) → q < length ws → ((j : ℕ) → get_or ws j 0 < 2 ^ 32)
    → r ≡ number 32 (λ b. f (q * 32 + b)) → ((j b : ℕ) → j ≢ q → b < 32 → test (get_or ws j 0) b ≡ f (j * 32 + b))
    → set ws q r ≡ words_of (length ws) f
set_words ws f q r h small e same =
    ext_get_or 0 (set ws q r) (words_of (length ws) f) (length-set ws q r ∙ sym (length-words_of (length ws) f))
    (λ j l. at j (subst (λ (n : ℕ). j < n) (length-set ws q r) l) (ℕ_discrete j q) ∙ sym (get_or-words_of (length ws) f j (subst (λ (n : ℕ). j < n) (length-set ws q r) l)))
  where
    at : (j : ℕ) → j < length ws → Dec (j ≡ q) → get_or (set ws q r) j 0 ≡ number 32 (λ b. f (j * 32 + b))
    at j l (yes p) =
        ap (λ (k : ℕ). get_or (set ws q r) k 0) p ∙ get_or-set_same ws q r 0 h ∙ e
        ∙ ap (λ (k : ℕ). number 32 (λ b. f (k * 32 + b))) (sym p)
    at j l (no n) =
        get_or-set_other ws q j r 0 n ∙ number-ext 32 (get_or ws j 0) (λ b. f (j * 32 + b)) (small j) (λ b k. same j b n k)

-- one bit of a set
module _ (ws : List ℕ) (i : ℕ) (v : Bool) where
  here : (b : ℕ) → b < 32 → eqb (i / 32 * 32 + b) i ≡ eqb b (i % 32)
  here b l = by (ℕ_discrete b (i % 32))
    where
      by : Dec (b ≡ i % 32) → eqb (i / 32 * 32 + b) i ≡ eqb b (i % 32)
      by (yes p) = eq-eqb (i / 32 * 32 + b) i (omega arith) ∙ sym (eq-eqb b (i % 32) p)
      by (no n) = ne_eqb (i / 32 * 32 + b) i (λ e. n (omega arith)) ∙ sym (ne_eqb b (i % 32) n)

  pub put-words : (r x : ℕ) → i < length ws * 32 → ((j : ℕ) → get_or ws j 0 < 2 ^ 32)
      → r ≡ number 32 (λ b. cond (test ((1 * 2 ^ (i % 32)) % 2 ^ 32) b) (test x b) (test (get_or ws (i / 32) 0) b))
      → test x (i % 32) ≡ v → set ws (i / 32) r ≡ words_of (length ws) (put_bit i v (has ws))
  put-words r x h small e ex =
      set_words ws (put_bit i v (has ws)) (i / 32) r (omega arith) small
      (e ∙ number-cong 32 (λ b. cond (test ((1 * 2 ^ (i % 32)) % 2 ^ 32) b) (test x b) (test (get_or ws (i / 32) 0) b)) (λ b. put_bit i v (has ws) (i / 32 * 32 + b))
      (λ b l. ap (λ (t : Bool). cond t (test x b) (test (get_or ws (i / 32) 0) b)) (test-one (i % 32) b (omega arith)) ∙ at b l (eqb b (i % 32)) refl))
      (λ j b n l. sym (ap (λ (t : Bool). cond t v (has ws (j * 32 + b))) (ne_eqb (j * 32 + b) i (λ q. n (omega arith))) ∙ has_word ws j b l))
    where
      at : (b : ℕ) → b < 32 → (t : Bool) → eqb b (i % 32) ≡ t → cond (eqb b (i % 32)) (test x b) (test (get_or ws (i / 32) 0) b) ≡ cond (eqb (i / 32 * 32 + b) i) v (has ws (i / 32 * 32 + b))
      at b l true q =
          rw (here b l, q) (ap (test x) (eqb-true b (i % 32) q) ∙ ex)
      at b l false q =
          rw (here b l, q) (sym (has_word ws (i / 32) b l))

-- a bit past the words changes nothing
pub put-past : (ws : List ℕ) (i : ℕ) (v : Bool) → length ws ≤ i / 32 → ((j : ℕ) → get_or ws j 0 < 2 ^ 32)
    → ws ≡ words_of (length ws) (put_bit i v (has ws))
put-past ws i v h small =
    words-ext ws (put_bit i v (has ws)) (λ j l. small j)
    (λ j b l k. sym (ap (λ (t : Bool). cond t v (has ws (j * 32 + b))) (ne_eqb (j * 32 + b) i (λ q. omega arith)) ∙ has_word ws j b k))

-- sets that agree below w * 32 have the same w words
pub words_of-cong : (w : ℕ) (f g : ℕ → Bool) → ((i : ℕ) → i < w * 32 → f i ≡ g i) → words_of w f ≡ words_of w g
words_of-cong w f g h =
    ext_get_or 0 (words_of w f) (words_of w g) (length-words_of w f ∙ sym (length-words_of w g))
    (λ j l. let k : j < w = omega (arith, length-words_of w f) in
    get_or-words_of w f j k ∙ number-cong 32 _ _ (λ b u. h (j * 32 + b) (omega arith)) ∙ sym (get_or-words_of w g j k))
