-- Words that are stored as bytes.
--     bytes_small      the bytes of words are bytes
--     bytes-again      bytes that are whole words are those of their words
--     same_bytes       a byte is the same where its word is
--     words_small      words that are read from bytes have 32 bits
use Prim.Native.Nat.{ℕ, zero, suc, ◌+◌, ◌*◌, ◌/◌, ◌%◌, ◌≤◌, ◌<◌}
use mathlib.Core.Path.{◌≡◌, sym, ap, ◌∙◌}
use mathlib.Core.Logic.{⊎_elim}
use mathlib.Core.List.{List, [], ◌∷◌}
use native.Mathlib.Omega.{arith}
use lib.ListN.{length, get_or, get_or-eq_default}
use lib.Seq.{ext_get_or}
use Rattle.basics.specs.Numbers.{u32_at}
use Rattle.basics.proofs.Numbers.{same-four}
use Rattle.basics.proofs.Order.{lt-or-ge}
use Rattle.word_bytes.specs.Bytes.{words_in, bytes_of, Bytes}
use Rattle.word_bytes.proofs.WordBytes.{Small, length-words_in, length-bytes_of, word_in, bytes-at}

pub bytes_small : (ws : List ℕ) → Bytes (bytes_of ws)
unfolding bytes_of
bytes_small [] i = omega arith
bytes_small (w ∷ ws) zero = omega arith
bytes_small (w ∷ ws) (suc zero) = omega arith
bytes_small (w ∷ ws) (suc (suc zero)) = omega arith
bytes_small (w ∷ ws) (suc (suc (suc zero))) = omega arith
bytes_small (w ∷ ws) (suc (suc (suc (suc i)))) = bytes_small ws i

-- lists of bytes that are equal in a word are equal in each of its bytes
in-word : (a b : List ℕ) → Bytes a → Bytes b → (k : ℕ) → u32_at a (k / 4 * 4) ≡ u32_at b (k / 4 * 4) → get_or a k 0 ≡ get_or b k 0
in-word a b sa sb k e =
    let at : k ≡ k / 4 * 4 + k % 4 = omega arith in
    ap (λ (i : ℕ). get_or a i 0) at
    ∙ same-four a b (k / 4 * 4) (λ j l. sa (k / 4 * 4 + j)) (λ j l. sb (k / 4 * 4 + j)) e (k % 4) (omega arith)
    ∙ ap (λ (i : ℕ). get_or b i 0) (sym at)

-- four bytes are a number of 32 bits
u32-small : (s : List ℕ) → Bytes s → (p : ℕ) → u32_at s p < 4294967296
unfolding u32_at
u32-small s small p = omega (arith, small p, small (p + 1), small (p + 2), small (p + 3))

pub words_small : (s : List ℕ) → Bytes s → Small (words_in s)
words_small s small j h =
    let e = word_in s j (omega (arith, length-words_in s)) in
    omega (arith, u32-small s small (j * 4))

pub bytes-again : (s : List ℕ) → Bytes s → length s % 4 ≡ 0 → bytes_of (words_in s) ≡ s
bytes-again s small whole =
    let long : length (bytes_of (words_in s)) ≡ length s = omega (arith, length-bytes_of (words_in s), length-words_in s) in
    ext_get_or 0 (bytes_of (words_in s)) s long
    (λ k h. in-word (bytes_of (words_in s)) s (bytes_small (words_in s)) small k (same k (omega (arith, long))))
  where
    same : (k : ℕ) → k < length s → u32_at (bytes_of (words_in s)) (k / 4 * 4) ≡ u32_at s (k / 4 * 4)
    same k h =
        let e = word_in s (k / 4) (omega arith) in
        let low = u32-small s small (k / 4 * 4) in
        bytes-at (words_in s) (k / 4) (omega (arith, length-words_in s))
        ∙ ap (λ (x : ℕ). x % 4294967296) (sym e)
        ∙ (let q : u32_at s (k / 4 * 4) % 4294967296 ≡ u32_at s (k / 4 * 4) = omega arith in q)

pub same_bytes : (xs ys : List ℕ) → length xs ≡ length ys → (k : ℕ) → get_or xs (k / 4) 0 ≡ get_or ys (k / 4) 0
    → get_or (bytes_of xs) k 0 ≡ get_or (bytes_of ys) k 0
same_bytes xs ys e k same =
    ⊎_elim
    (λ (l : k / 4 < length xs). in-word (bytes_of xs) (bytes_of ys) (bytes_small xs) (bytes_small ys) k
    (bytes-at xs (k / 4) l ∙ ap (λ (x : ℕ). x % 4294967296) same ∙ sym (bytes-at ys (k / 4) (omega arith))))
    (λ (l : length xs ≤ k / 4). get_or-eq_default (bytes_of xs) 0 (omega (arith, length-bytes_of xs))
    ∙ sym (get_or-eq_default (bytes_of ys) 0 (omega (arith, length-bytes_of ys))))
    (lt-or-ge (k / 4) (length xs))
