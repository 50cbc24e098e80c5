-- Laws of a name's bytes: a turn of the copy, and its last word.
use Prim.Native.Nat.{ℕ, zero, suc, ◌+◌, ◌-◌, ◌%◌, ◌≤◌, ◌<◌}
use mathlib.Core.Path.{◌≡◌, refl, sym, ap, ap₂, ◌∙◌}
use mathlib.Core.Bool.{Bool, true, false, cond}
use mathlib.Core.List.{List, [], ◌∷◌, ◌++◌, append_assoc}
use native.Mathlib.Omega.{arith}
use borrow.Rule.Slice.PartMut.{put_mid}
use borrow.Author.Tests.{ne_eqb}
use lib.Dec.{ltb}
use lib.ListN.{length, take, drop, get_or, replicate}
use lib.Seq.{length-take-le, take-add, drop-drop}
use Rattle.basics.specs.Numbers.{le32, u32_at}
use Rattle.basics.specs.Put.{put}
use Rattle.basics.specs.Scan.{any}
use Rattle.basics.proofs.Numbers.{drop-four, four_bytes}
use Rattle.basics.proofs.Put.{put-nil, then-rest}
use Rattle.netlink.specs.Policy.{nul_at}
use Rattle.netlink.specs.NulSearch.{is_nul}
use Rattle.netlink.proofs.policy.Laws.{nul-start, nul-none}
use Rattle.netlink_write.specs.PaddedName.{padded_word, padded_name, Copied}

-- eight bytes of a list are those of the two numbers that they make
pub eight-bytes : (s : List ℕ) → ((i : ℕ) → get_or s i 0 < 256) → (p : ℕ) → p + 8 ≤ length s
    → take 8 (drop p s) ≡ le32 (u32_at s p) ++ le32 (u32_at s (p + 4))
eight-bytes s small p h =
    take-add 4 4 (drop p s)
    ∙ ap₂ (λ (x y : List ℕ). x ++ y) (four_bytes s small p (omega arith)) (ap (take 4) (drop-drop 4 p s) ∙ four_bytes s small (p + 4) (omega arith))

-- the first NUL, byte by byte
pub nul-none-left : 0 ≡ nul_at []
unfolding nul_at
nul-none-left = refl

pub nul-first : (a : ℕ) (s : List ℕ) → a ≡ 0 → 0 ≡ nul_at (a ∷ s)
unfolding nul_at
nul-first zero s e = refl
nul-first (suc a) s e = absurd (omega arith)

pub nul-later : (a n : ℕ) (s : List ℕ) → (a ≡ 0 → ⊥) → n ≡ nul_at s → n + 1 ≡ nul_at (a ∷ s)
unfolding nul_at
nul-later zero n s h e = absurd (h refl)
nul-later (suc a) n s h e = omega arith

-- nothing is copied yet
pub copied_none : (name P : List ℕ) → Copied name P P 0
copied_none name P = record { within = omega arith; whole = refl; free = nul-start name; page = sym (put-nil P) }

module _ (name P Q B : List ℕ) (at : ℕ) (c : Copied name P Q at) (room : length name ≤ length P) where
  front : length (take at name) ≡ at
  front = length-take-le at name c.within

  -- words more, in which no byte is NUL
  pub copied_more : (w : ℕ) (b : Bool) → at + w ≤ length name → w % 4 ≡ 0 → b ≡ any w (is_nul name at) → b ≡ false
      → B ≡ put (take (length Q - at) (drop at Q)) (take w (drop at name)) → Copied name P (put_mid at (length Q - at) Q B) (at + w)
  copied_more w b h z eb eq p =
      record {
        within = h;
        whole = omega (arith, c.whole);
        free = nul-none name at w b c.free h eb eq;
        page = then-rest P (take at name) (take w (drop at name)) at front (omega (arith, front, c.within)) c.page p
            ∙ ap (put P) (sym (take-add at w name));
      }

  -- the word that ends the name
  pub copied-end : (k : ℕ) → k ≡ nul_at (drop at name) → k < 4 → B ≡ put (take (length Q - at) (drop at Q)) (padded_word k (drop at name))
      → (at + k ≡ nul_at name) × (put_mid at (length Q - at) Q B ≡ put P (padded_name name))
  unfolding padded_word padded_name
  copied-end k e small p =
      let n : at + k ≡ nul_at name = omega (arith, c.free) in
      let pad : 4 - k ≡ 4 - nul_at name % 4 = omega (arith, c.whole) in (
        n,
        then-rest P (take at name) (padded_word k (drop at name)) at front (omega (arith, front, c.within)) c.page p
            ∙ ap (put P)
            (sym (append_assoc (take at name) (take k (drop at name)) (replicate (4 - k) 0))
            ∙ ap₂ (λ (x y : List ℕ). x ++ y) (sym (take-add at k name) ∙ ap (λ (m : ℕ). take m name) n) (ap (λ (m : ℕ). replicate m 0) pad)),
      )

-- one of four bytes is NUL, so not all are others
some-nul-of : (s : List ℕ) (at : ℕ) → any 4 (is_nul s at) ≡ true → (get_or s at 0 ≡ 0 → ⊥) → (get_or s (at + 1) 0 ≡ 0 → ⊥) → (get_or s (at + 2) 0 ≡ 0 → ⊥)
    → (get_or s (at + 3) 0 ≡ 0 → ⊥) → ⊥
unfolding any is_nul
some-nul-of s at t a b c d =
    let z : at + 0 ≡ at = omega arith in
    let f : any 4 (is_nul s at) ≡ false
    = simp (z, ne_eqb (get_or s at 0) 0 a, ne_eqb (get_or s (at + 1) 0) 0 b, ne_eqb (get_or s (at + 2) 0) 0 c, ne_eqb (get_or s (at + 3) 0) 0 d) in
    let q : ◌≡◌ {A = ℕ} 0 1 = cc in omega arith

-- then the first three say how many stand before it
last-nul : (a b c d : ℕ) (r : List ℕ) → ((a ≡ 0 → ⊥) → (b ≡ 0 → ⊥) → (c ≡ 0 → ⊥) → (d ≡ 0 → ⊥) → ⊥)
    → (nul_at (a ∷ b ∷ c ∷ []) ≡ nul_at (a ∷ b ∷ c ∷ d ∷ r))
    × (padded_word (nul_at (a ∷ b ∷ c ∷ [])) (a ∷ b ∷ c ∷ []) ≡ padded_word (nul_at (a ∷ b ∷ c ∷ [])) (a ∷ b ∷ c ∷ d ∷ r))
unfolding nul_at padded_word
last-nul zero b c d r h = (refl, refl)
last-nul (suc a) zero c d r h = (refl, refl)
last-nul (suc a) (suc b) zero d r h = (refl, refl)
last-nul (suc a) (suc b) (suc c) zero r h = (refl, refl)
last-nul (suc a) (suc b) (suc c) (suc d) r h = absurd (h (λ q. omega arith) (λ q. omega arith) (λ q. omega arith) (λ q. omega arith))

pub copied-last : (name P Q B : List ℕ) (at k : ℕ) (t : Bool) → Copied name P Q at → length name ≤ length P → at + 4 ≤ length name
    → t ≡ any 4 (is_nul name at) → t ≡ true → k ≡ nul_at (get_or name at 0 ∷ get_or name (at + 1) 0 ∷ get_or name (at + 2) 0 ∷ []) → k < 4
    → B ≡ put (take (length Q - at) (drop at Q)) (padded_word k (get_or name at 0 ∷ get_or name (at + 1) 0 ∷ get_or name (at + 2) 0 ∷ []))
    → (at + k ≡ nul_at name) × (put_mid at (length Q - at) Q B ≡ put P (padded_name name))
copied-last name P Q B at k t c room h et eq e few p =
    let three : List ℕ = get_or name at 0 ∷ get_or name (at + 1) 0 ∷ get_or name (at + 2) 0 ∷ [] in
    let four = drop-four name at h in
    let last = last-nul (get_or name at 0) (get_or name (at + 1) 0) (get_or name (at + 2) 0) (get_or name (at + 3) 0) (drop (at + 4) name) (some-nul-of name at (sym et ∙ eq)) in
    copied-end name P Q B at c room k (e ∙ last.0 ∙ ap nul_at (sym four)) few
    (p
    ∙ ap (put (take (length Q - at) (drop at Q)))
    (ap (λ (j : ℕ). padded_word j three) e ∙ last.1 ∙ ap₂ padded_word (sym e) (sym four)))

-- the last word, byte by byte
last-bytes : (a b c : ℕ) → a ∷ cond (ltb 1 (nul_at (a ∷ b ∷ c ∷ []))) b 0 ∷ cond (ltb 2 (nul_at (a ∷ b ∷ c ∷ []))) c 0 ∷ 0 ∷ []
    ≡ padded_word (nul_at (a ∷ b ∷ c ∷ [])) (a ∷ b ∷ c ∷ [])
unfolding nul_at padded_word
last-bytes zero b c = refl
last-bytes (suc a) zero c = refl
last-bytes (suc a) (suc b) zero = refl
last-bytes (suc a) (suc b) (suc c) = refl

pub last_word : (a b c k : ℕ) → k ≡ nul_at (a ∷ b ∷ c ∷ []) → a ∷ cond (ltb 1 k) b 0 ∷ cond (ltb 2 k) c 0 ∷ 0 ∷ [] ≡ padded_word k (a ∷ b ∷ c ∷ [])
last_word a b c k e = rw e (last-bytes a b c)
