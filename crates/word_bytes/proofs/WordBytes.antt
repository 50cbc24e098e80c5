-- Laws of words and their bytes: each says what the other is.
use Prim.Native.Nat.{ℕ, zero, suc, ◌+◌, ◌*◌, ◌/◌, ◌%◌, ◌^◌, ◌≤◌, ◌<◌}
use mathlib.Core.Path.{◌≡◌, refl, sym, ap, ap₂, ◌∙◌}
use mathlib.Core.Bool.{Bool}
use mathlib.Core.Logic.{⊎_elim}
use mathlib.Core.List.{List, [], ◌∷◌, ◌++◌, append_assoc, append-nil}
use native.Mathlib.Numerals.{add-one}
use native.Mathlib.Omega.{arith}
use lib.ListN.{length, take, drop, get_or, set, length-append, get_or-append, get_or-eq_default}
use lib.Seq.{take_all, take-suc, get_or_at, get_or-append-add, ext_get_or}
use Rattle.basics.specs.Numbers.{le32, u32_at}
use Rattle.basics.specs.Put.{put}
use Rattle.basics.proofs.Numbers.{digits_low}
use Rattle.basics.proofs.Order.{lt-or-ge}
use Rattle.basics.proofs.Put.{put-take, put_whole}
use Rattle.bits.specs.Bit.{test}
use Rattle.bits.specs.Set.{has, words_of}
use Rattle.bits.specs.Change.{Same}
use Rattle.word_bytes.specs.Bytes.{table, words_in, bytes_of}
use Rattle.bits.proofs.Bit.{number_lt, test_low}
use Rattle.bits.proofs.Words.{length-words_of, get_or-words_of}

length-table : (n : ℕ) (f : ℕ → ℕ) → length (table n f) ≡ n
unfolding table
length-table zero f = refl
length-table (suc n) f = length-append (table n f) (f n ∷ []) ∙ add-one (length (table n f)) ∙ ap suc (length-table n f)

get_or-table : (n : ℕ) (f : ℕ → ℕ) (j : ℕ) → j < n → get_or (table n f) j 0 ≡ f j
unfolding table
get_or-table zero f j h = absurd (omega arith)
get_or-table (suc n) f j h =
    ⊎_elim
    (λ (q : j < n). get_or-append (table n f) (f n ∷ []) 0 j (omega (arith, length-table n f)) ∙ get_or-table n f j q)
    (λ (q : n ≤ j). let k : n ≡ j = omega arith in get_or_at (table n f) (f n) [] 0 j (length-table n f ∙ k) ∙ ap f k)
    (lt-or-ge j n)

-- the words in bytes
module _ (s : List ℕ) where
  pub length-words_in : length (words_in s) ≡ length s / 4
  unfolding words_in
  length-words_in = length-table (length s / 4) (λ j. u32_at s (j * 4))

  pub word_in : (j : ℕ) → j < length s / 4 → u32_at s (j * 4) ≡ get_or (words_in s) j 0
  unfolding words_in
  word_in j h = sym (get_or-table (length s / 4) (λ j. u32_at s (j * 4)) j h)

  pub word-past : (j : ℕ) → length s / 4 ≤ j → 0 ≡ get_or (words_in s) j 0
  word-past j h = sym (get_or-eq_default (words_in s) 0 (omega (arith, length-words_in)))

-- the bytes of words
pub length-bytes_of : (ws : List ℕ) → length (bytes_of ws) ≡ length ws * 4
unfolding bytes_of
length-bytes_of [] = refl
length-bytes_of (w ∷ ws) = omega (arith, length-append (le32 w) (bytes_of ws), length-bytes_of ws)

bytes_of-append : (xs ys : List ℕ) → bytes_of (xs ++ ys) ≡ bytes_of xs ++ bytes_of ys
unfolding bytes_of
bytes_of-append [] ys = refl
bytes_of-append (x ∷ xs) ys =
    ap (λ (l : List ℕ). le32 x ++ l) (bytes_of-append xs ys) ∙ sym (append_assoc (le32 x) (bytes_of xs) (bytes_of ys))

pub bytes_of-more : (ws : List ℕ) (j : ℕ) → j < length ws → bytes_of (take (j + 1) ws) ≡ bytes_of (take j ws) ++ le32 (get_or ws j 0)
unfolding bytes_of
bytes_of-more ws j h =
    ap bytes_of (ap (λ (k : ℕ). take k ws) (add-one j) ∙ take-suc ws j 0 h)
    ∙ bytes_of-append (take j ws) (get_or ws j 0 ∷ [])
    ∙ ap (λ (l : List ℕ). bytes_of (take j ws) ++ l) (append-nil (le32 (get_or ws j 0)))

-- words of 32 bits
abbrev pub Small : List ℕ → Type 0
Small ws = (j : ℕ) → j < length ws → get_or ws j 0 < 2 ^ 32

pub small-words_of : (w : ℕ) (f : ℕ → Bool) → Small (words_of w f)
small-words_of w f j h =
    let k : j < w = omega (arith, length-words_of w f) in
    omega (arith, get_or-words_of w f j k, number_lt 32 (λ b. f (j * 32 + b)))

-- the number at a word's place in the bytes of words
pub bytes-at : (ws : List ℕ) (j : ℕ) → j < length ws → u32_at (bytes_of ws) (j * 4) ≡ get_or ws j 0 % 4294967296
unfolding bytes_of u32_at
bytes-at [] j h = absurd (omega arith)
bytes-at (w ∷ ws) zero h = digits_low w
bytes-at (w ∷ ws) (suc j) h =
    let skip : (i n : ℕ) → i ≡ 4 + n → get_or (le32 w ++ bytes_of ws) i 0 ≡ get_or (bytes_of ws) n 0 =
    λ i n e. ap (λ (k : ℕ). get_or (le32 w ++ bytes_of ws) k 0) e ∙ get_or-append-add (le32 w) (bytes_of ws) n 0 in
    rw
    (skip (suc j * 4) (j * 4) (omega arith), skip (suc j * 4 + 1) (j * 4 + 1) (omega arith), skip (suc j * 4 + 2) (j * 4 + 2) (omega arith), skip (suc j * 4 + 3) (j * 4 + 3) (omega arith))
    (bytes-at ws j (omega arith))

-- the words in the bytes of words are their lowest 32 bits
pub length-again : (ws : List ℕ) → length (words_in (bytes_of ws)) ≡ length ws
length-again ws = omega (arith, length-words_in (bytes_of ws), length-bytes_of ws)

pub word-again : (ws : List ℕ) (j : ℕ) → get_or (words_in (bytes_of ws)) j 0 ≡ get_or ws j 0 % 4294967296
word-again ws j =
    ⊎_elim
    (λ (l : j < length ws). sym (word_in (bytes_of ws) j (omega (arith, length-bytes_of ws))) ∙ bytes-at ws j l)
    (λ (l : length ws ≤ j). sym (word-past (bytes_of ws) j (omega (arith, length-bytes_of ws)))
    ∙ ap (λ (x : ℕ). x % 4294967296) (sym (get_or-eq_default ws 0 l)))
    (lt-or-ge j (length ws))

-- so they hold the same set
pub has-again : (ws : List ℕ) → Same (has (words_in (bytes_of ws))) (has ws)
unfolding has
has-again ws i = ap (λ (x : ℕ). test x (i % 32)) (word-again ws (i / 32)) ∙ test_low 32 (get_or ws (i / 32) 0) (i % 32) (omega arith)

-- and are the same words where these have 32 bits
pub words-of-bytes : (ws : List ℕ) → Small ws → words_in (bytes_of ws) ≡ ws
words-of-bytes ws s =
    ext_get_or 0 (words_in (bytes_of ws)) ws (length-again ws)
    (λ j h. let small = s j (omega (arith, length-again ws)) in word-again ws j ∙ (let e : get_or ws j 0 % 4294967296 ≡ get_or ws j 0 = omega arith in e))

-- equal bytes are of equal words
pub bytes_of-inj : (xs ys : List ℕ) → Small xs → Small ys → bytes_of xs ≡ bytes_of ys → xs ≡ ys
bytes_of-inj xs ys sx sy e = sym (words-of-bytes xs sx) ∙ ap words_in e ∙ words-of-bytes ys sy

pub bytes_same : (w : ℕ) (f g : ℕ → Bool) → bytes_of (words_of w f) ≡ bytes_of (words_of w g) → words_of w f ≡ words_of w g
bytes_same w f g e = bytes_of-inj (words_of w f) (words_of w g) (small-words_of w f) (small-words_of w g) e

-- a loop that reads words has read one more
pub read-turn : (s w₀ w : List ℕ) (j r : ℕ) → w ≡ put w₀ (take j (words_in s)) → j < length s / 4 → length s / 4 ≤ length w₀
    → r ≡ get_or (words_in s) j 0 → set w j r ≡ put w₀ (take (j + 1) (words_in s))
read-turn s w₀ w j r e h f q =
    ap₂ (λ (l : List ℕ) (x : ℕ). set l j x) e q
    ∙ put-take w₀ (words_in s) j (omega (arith, length-words_in s)) (omega (arith, length-words_in s))

-- and at the end all of them
pub read-all : (s w₀ w : List ℕ) (j : ℕ) → length (take (length s / 4) w₀) ≡ length s / 4 → w ≡ put (take (length s / 4) w₀) (take j (words_in s)) → length s / 4 ≤ j
    → w ++ drop (length s / 4) w₀ ≡ put w₀ (words_in s)
unfolding put
read-all s w₀ w j room e l =
    let whole : take j (words_in s) ≡ words_in s = take_all j (words_in s) (omega (arith, length-words_in s)) in
    let full = put_whole (take (length s / 4) w₀) (words_in s) (omega (arith, room, length-words_in s)) in
    ap (λ (x : List ℕ). x ++ drop (length s / 4) w₀) (e ∙ ap (put (take (length s / 4) w₀)) whole ∙ full)
    ∙ ap (λ (k : ℕ). words_in s ++ drop k w₀) (sym length-is)
  where
    length-is : length (words_in s) ≡ length s / 4
    length-is = length-words_in s
