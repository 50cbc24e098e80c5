-- Laws of writers on one page, beside those of `put`: each says that the page after two writers is the page after one of both runs of bytes.
use Prim.Native.Nat.{ℕ, ◌+◌, ◌-◌, ◌≤◌, ◌<◌}
use mathlib.Core.Path.{◌≡◌, refl, sym, ap, ◌∙◌}
use mathlib.Core.List.{List, [], ◌∷◌, ◌++◌, append_assoc, append-nil}
use native.Mathlib.Omega.{arith}
use borrow.Rule.Slice.PartMut.{put_mid}
use lib.ListN.{length, take, drop, set, replicate, length-append, length-replicate, replicate-append-replicate, drop_of_length-le}
use lib.Seq.{drop_at, drop-drop, length-take-le}
use Rattle.basics.specs.Put.{put}
use Rattle.basics.proofs.Put.{put-snoc, rest-drop, then-rest}
use Rattle.page.specs.Page.{Wrote}

-- two bytes, stored one by one
pub put-set2 : (xs : List ℕ) (a b : ℕ) → 2 ≤ length xs → set (set xs 0 a) 1 b ≡ put xs (a ∷ b ∷ [])
unfolding put
put-set2 [] a b h = absurd (omega arith)
put-set2 (x ∷ []) a b h = absurd (omega arith)
put-set2 (x ∷ y ∷ xs) a b h = refl

-- a loop that writes zeros has written one more
pub put-zero : (xs : List ℕ) (i : ℕ) → i < length xs → set (put xs (replicate i 0)) i 0 ≡ put xs (replicate (i + 1) 0)
put-zero xs i h =
    put-snoc xs (replicate i 0) i 0 (length-replicate i 0) h ∙ ap (put xs) (replicate-append-replicate i 1 0)

-- a writer of bs past n bytes, then one of hs in the n bytes
pub then-front : (P : List ℕ) {ys zs : List ℕ} (hs bs : List ℕ) (n : ℕ) → length hs ≡ n → n ≤ length P
    → ys ≡ put (take (length P - n) (drop n P)) bs → zs ≡ put (put_mid n (length P - n) P ys) hs → zs ≡ put P (hs ++ bs)
unfolding put
then-front P {ys} {zs} hs bs n e f p q =
    q
    ∙ ap (λ (l : List ℕ). put (put_mid n (length P - n) P l) hs) (p ∙ ap (λ (l : List ℕ). put l bs) (rest-drop n P))
    ∙ ap (λ (l : List ℕ). hs ++ l) (drop_at (take n P) _ (length hs) (length-take-le n P f ∙ sym e) ∙ back)
    ∙ sym
    (append_assoc hs bs (drop (length (hs ++ bs)) P)
    ∙ ap (λ (m : ℕ). hs ++ (bs ++ drop m P)) (length-append hs bs ∙ ap (λ (m : ℕ). m + length bs) e))
  where
    past : length P ≤ n + (length P - n)
    past = omega arith

    back : put (drop n P) bs ++ drop (length P - n) (drop n P) ≡ bs ++ drop (n + length bs) P
    back =
        ap (λ (l : List ℕ). (bs ++ drop (length bs) (drop n P)) ++ l) (drop-drop (length P - n) n P ∙ drop_of_length-le P past)
        ∙ append-nil (bs ++ drop (length bs) (drop n P))
        ∙ ap (λ (l : List ℕ). bs ++ l) (drop-drop (length bs) n P)

-- a header of n bytes that counts what follows it: bs past the n bytes, then the header made of their count k
pub then-sized : (P : List ℕ) {ys zs : List ℕ} (h : ℕ → List ℕ) (bs : List ℕ) (n k : ℕ) → length (h (length bs)) ≡ n → n ≤ length P → k ≡ length bs
    → ys ≡ put (take (length P - n) (drop n P)) bs → zs ≡ put (put_mid n (length P - n) P ys) (h k) → zs ≡ put P (h (length bs) ++ bs)
then-sized P {ys} {zs} h bs n k l f e p q =
    then-front P (h (length bs)) bs n l f p (q ∙ ap (λ (j : ℕ). put (put_mid n (length P - n) P ys) (h j)) e)

-- two writers in a row, the second on the page past the first one's count
pub wrote_then : (P xs ys hs bs : List ℕ) (n m : ℕ) → n ≤ length P → Wrote hs P xs n → Wrote bs (take (length xs - n) (drop n xs)) ys m
    → Wrote (hs ++ bs) P (put_mid n (length xs - n) xs ys) (n + m)
wrote_then P xs ys hs bs n m f h b =
    record {
      count = omega (arith, h.count, b.count, length-append hs bs);
      page = then-rest P hs bs n (sym h.count) (omega (arith, h.count)) h.page b.page;
    }
