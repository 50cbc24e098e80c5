-- Laws of `put`: how a loop that fills a slice from its front goes on, and what two writers leave, one after the other.
use Prim.Native.Nat.{ℕ, suc, ◌+◌, ◌-◌, ◌≤◌, ◌<◌}
use mathlib.Core.Path.{◌≡◌, refl, sym, ap, ◌∙◌}
use mathlib.Core.List.{List, [], ◌∷◌, ◌++◌, append_assoc, append-nil}
use native.Mathlib.Numerals.{add-one}
use native.Mathlib.Omega.{arith}
use borrow.Rule.Slice.PartMut.{put_mid}
use lib.ListN.{length, take, drop, set, get_or, length-append, length-drop, drop_of_length-le}
use lib.Seq.{take_at, drop_at, drop-drop, length-take-le, drop-cons, set_at, take-suc, take_all, get_or-append-add, get_or-drop}
use Rattle.basics.specs.Put.{put}

pub put-nil : (xs : List ℕ) → put xs [] ≡ xs
unfolding put
put-nil xs = refl

pub put_whole : (xs ys : List ℕ) → length xs ≤ length ys → put xs ys ≡ ys
unfolding put
put_whole xs ys h = ap (λ (l : List ℕ). ys ++ l) (drop_of_length-le xs h) ∙ append-nil ys

pub length-put : (xs ys : List ℕ) → length ys ≤ length xs → length (put xs ys) ≡ length xs
unfolding put
length-put xs ys h = simp (length-append, length-drop) (omega arith)

pub take_put : (xs ys : List ℕ) (n : ℕ) → length ys ≡ n → take n (put xs ys) ≡ ys
unfolding put
take_put xs ys n e = take_at ys (drop (length ys) xs) n e

pub drop-put : (xs ys : List ℕ) (n : ℕ) → length ys ≡ n → drop n (put xs ys) ≡ drop n xs
unfolding put
drop-put xs ys n e = drop_at ys (drop (length ys) xs) n e ∙ ap (λ (k : ℕ). drop k xs) e

pub get_or-put : (xs ys : List ℕ) (i : ℕ) → length ys ≤ i → get_or (put xs ys) i 0 ≡ get_or xs i 0
unfolding put
get_or-put xs ys i h =
    let k : length ys + (i - length ys) ≡ i = omega arith in
    ap (λ (n : ℕ). get_or (ys ++ drop (length ys) xs) n 0) (sym k) ∙ get_or-append-add ys (drop (length ys) xs) (i - length ys) 0
    ∙ get_or-drop (length ys) xs (i - length ys) 0 ∙ ap (λ (n : ℕ). get_or xs n 0) k

-- one element more
pub put-snoc : (xs ys : List ℕ) (i v : ℕ) → length ys ≡ i → i < length xs → set (put xs ys) i v ≡ put xs (ys ++ (v ∷ []))
unfolding put
put-snoc xs ys i v e h =
    ap (λ (l : List ℕ). set (ys ++ l) i v) (ap (λ (k : ℕ). drop k xs) e ∙ drop-cons xs i 0 h)
    ∙ set_at ys (get_or xs i 0) (drop (suc i) xs) v i e
    ∙ sym
    (append_assoc ys (v ∷ []) (drop (length (ys ++ (v ∷ []))) xs)
    ∙ ap (λ (k : ℕ). ys ++ (v ∷ drop k xs)) (length-append ys (v ∷ []) ∙ ap (λ (k : ℕ). k + 1) e ∙ add-one i))

-- a loop that copies src has copied one element more
pub put-take : (xs src : List ℕ) (i : ℕ) → i < length src → length src ≤ length xs
    → set (put xs (take i src)) i (get_or src i 0) ≡ put xs (take (i + 1) src)
put-take xs src i h f =
    put-snoc xs (take i src) i (get_or src i 0) (length-take-le i src (omega arith)) (omega arith)
    ∙ ap (put xs) (sym (ap (λ (k : ℕ). take k src) (add-one i) ∙ take-suc src i 0 h))

-- four elements, stored one by one
pub put-set4 : (xs : List ℕ) (a b c d : ℕ) → 4 ≤ length xs → set (set (set (set xs 0 a) 1 b) 2 c) 3 d ≡ put xs (a ∷ b ∷ c ∷ d ∷ [])
unfolding put
put-set4 [] a b c d h = absurd (omega arith)
put-set4 (x ∷ []) a b c d h = absurd (omega arith)
put-set4 (x ∷ y ∷ []) a b c d h = absurd (omega arith)
put-set4 (x ∷ y ∷ z ∷ []) a b c d h = absurd (omega arith)
put-set4 (x ∷ y ∷ z ∷ w ∷ xs) a b c d h = refl

-- `&mut xs[n..]` is lent as `take (length xs - n) (drop n xs)`, and xs is `put_mid` when it is back.
pub rest-drop : (n : ℕ) (xs : List ℕ) → take (length xs - n) (drop n xs) ≡ drop n xs
rest-drop n xs = take_all (length xs - n) (drop n xs) (simp length-drop (omega arith))

pub length_rest : (n : ℕ) (xs : List ℕ) → length (take (length xs - n) (drop n xs)) ≡ length xs - n
length_rest n xs = ap length (rest-drop n xs) ∙ length-drop n xs

-- ys at the front, then zs at the front of what is left
pub then-rest : (P : List ℕ) {xs us : List ℕ} (ys zs : List ℕ) (n : ℕ) → length ys ≡ n → length ys ≤ length P → xs ≡ put P ys
    → us ≡ put (take (length xs - n) (drop n xs)) zs → put_mid n (length xs - n) xs us ≡ put P (ys ++ zs)
unfolding put
then-rest P {xs} {us} ys zs n e f p q =
    ap (put_mid n (length xs - n) xs) (q ∙ ap (λ (l : List ℕ). put l zs) (rest-drop n xs))
    ∙ ap (λ (l : List ℕ). put_mid n (length xs - n) l (put (drop n l) zs)) p
    ∙ rw (take_put P ys n e, drop-put P ys n e) (ap (λ (l : List ℕ). ys ++ l) back)
    ∙ sym
    (append_assoc ys zs (drop (length (ys ++ zs)) P)
    ∙ ap (λ (m : ℕ). ys ++ (zs ++ drop m P)) (length-append ys zs ∙ ap (λ (m : ℕ). m + length zs) e))
  where
    past : length P ≤ n + (length xs - n)
    past = let l = ap length p ∙ length-put P ys f in omega arith

    back : (zs ++ drop (length zs) (drop n P)) ++ drop (length xs - n) (drop n P) ≡ zs ++ drop (n + length zs) P
    back =
        ap (λ (l : List ℕ). (zs ++ drop (length zs) (drop n P)) ++ l) (drop-drop (length xs - n) n P ∙ drop_of_length-le P past)
        ∙ append-nil (zs ++ drop (length zs) (drop n P)) ∙ ap (λ (l : List ℕ). zs ++ l) (drop-drop (length zs) n P)
