-- Laws of runs of bytes.
use Prim.Native.Nat.{ℕ, ◌+◌, ◌-◌, ◌≤◌, min}
use mathlib.Core.Path.{◌≡◌, refl, sym, ap, ◌∙◌}
use mathlib.Core.List.{List, [], ◌∷◌, ◌++◌}
use native.Mathlib.Omega.{arith}
use borrow.Rule.Slice.PartMut.{put_mid}
use lib.ListN.{length, take, drop, set, replicate, length-append, length-drop, length-replicate, take-append-drop}
use lib.Seq.{length-take-le, take-append-le, take-take, get_or-drop, ext_get_or}
use Rattle.basics.specs.Put.{put}
use Rattle.basics.proofs.Put.{length-put, get_or-put, then-rest, put-set4}

as-put : (P ws : List ℕ) → put P ws ≡ ws ++ drop (length ws) P
unfolding put
as-put P ws = refl

-- bytes that stand in front already
put_same : (xs ys : List ℕ) → take (length ys) xs ≡ ys → put xs ys ≡ xs
unfolding put
put_same xs ys e = ap (λ (l : List ℕ). l ++ drop (length ys) xs) (sym e) ∙ take-append-drop (length ys) xs

-- bytes over fewer bytes
put-over : (P us ws : List ℕ) → length us ≤ length ws → length us ≤ length P → put (put P us) ws ≡ put P ws
put-over P us ws h room = over ∙ sym here
  where
    same : drop (length ws) (put P us) ≡ drop (length ws) P
    same =
        ext_get_or 0 (drop (length ws) (put P us)) (drop (length ws) P)
        (length-drop (length ws) (put P us) ∙ ap (λ (k : ℕ). k - length ws) (length-put P us room) ∙ sym (length-drop (length ws) P))
        (λ j l. get_or-drop (length ws) (put P us) j 0 ∙ get_or-put P us (length ws + j) (omega arith) ∙ sym (get_or-drop (length ws) P j 0))

    over : put (put P us) ws ≡ ws ++ drop (length ws) P
    over = as-put (put P us) ws ∙ ap (λ (l : List ℕ). ws ++ l) same

    here : put P ws ≡ ws ++ drop (length ws) P
    here = as-put P ws

-- the first k of m bytes that were written, then zeros over the others
pub filled_put : (P bytes A B : List ℕ) (k m n z : ℕ) → k ≤ length bytes → k ≤ n → n ≤ length P → m ≡ min n (length bytes) → z ≡ n - k
    → A ≡ put P (take m bytes) → B ≡ put (take (length A - k) (drop k A)) (replicate z 0)
    → put_mid k (length A - k) A B ≡ put P (take k bytes ++ replicate (n - k) 0)
filled_put P bytes A B k m n z hk kn room em e a b =
    rest ∙ rw (a, e)
    (put-over P (take m bytes) (take k bytes ++ replicate (n - k) 0) (omega (arith, long, front, whole)) (omega (arith, long)))
  where
    long : length (take m bytes) ≡ m
    long = length-take-le m bytes (omega arith)

    front : length (take k bytes) ≡ k
    front = length-take-le k bytes hk

    whole : length (take k bytes ++ replicate (n - k) 0) ≡ n
    whole = length-append (take k bytes) (replicate (n - k) 0) ∙ omega (arith, front, length-replicate {A = ℕ} (n - k) 0)

    stands : take (length (take k bytes)) A ≡ take k bytes
    stands =
        ap (λ (j : ℕ). take j A) front ∙ ap (take k) (a ∙ as-put P (take m bytes))
        ∙ take-append-le k (take m bytes) (drop (length (take m bytes)) P) (omega (arith, long)) ∙ take-take k m bytes (omega arith)

    all : length A ≡ length P
    all = ap length a ∙ length-put P (take m bytes) (omega (arith, long))

    rest : put_mid k (length A - k) A B ≡ put A (take k bytes ++ replicate z 0)
    rest = then-rest A (take k bytes) (replicate z 0) k front (omega (arith, front, all)) (sym (put_same A (take k bytes) stands)) b

-- up to four zeros
module _ (n : ℕ) where
  pub zeros-none : (xs : List ℕ) → n ≡ 0 → xs ≡ put xs (replicate n 0)
  unfolding put
  zeros-none xs e = rw e

  pub zeros-one : (xs : List ℕ) → n ≡ 1 → n ≤ length xs → set xs 0 0 ≡ put xs (replicate n 0)
  unfolding put
  zeros-one [] e h = absurd (omega arith)
  zeros-one (x ∷ xs) e h = rw e

  pub zeros-two : (xs : List ℕ) → n ≡ 2 → n ≤ length xs → set (set xs 0 0) 1 0 ≡ put xs (replicate n 0)
  unfolding put
  zeros-two [] e h = absurd (omega arith)
  zeros-two (x ∷ []) e h = absurd (omega arith)
  zeros-two (x ∷ y ∷ xs) e h = rw e

  pub zeros-three : (xs : List ℕ) → n ≡ 3 → n ≤ length xs → set (set (set xs 0 0) 1 0) 2 0 ≡ put xs (replicate n 0)
  unfolding put
  zeros-three [] e h = absurd (omega arith)
  zeros-three (x ∷ []) e h = absurd (omega arith)
  zeros-three (x ∷ y ∷ []) e h = absurd (omega arith)
  zeros-three (x ∷ y ∷ z ∷ xs) e h = rw e

  pub zeros-four : (xs : List ℕ) → n ≡ 4 → n ≤ length xs → set (set (set (set xs 0 0) 1 0) 2 0) 3 0 ≡ put xs (replicate n 0)
  zeros-four xs e h = put-set4 xs 0 0 0 0 (omega arith) ∙ rw e
