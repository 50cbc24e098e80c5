-- Laws of a name's length: what it means, and how it is read from the numbers of an entry.
use Prim.Native.Nat.{ℕ, zero, suc, ◌+◌, ◌-◌, ◌*◌, ◌/◌, ◌^◌, ◌≤◌, ◌<◌}
use mathlib.Core.Path.{◌≡◌, refl, sym, ap, ◌∙◌}
use mathlib.Core.Bool.{Bool, true, false, ◌&&◌, cond, and-false}
use mathlib.Core.Logic.{◌⊎◌, inl, inr, ⊎_elim}
use mathlib.Core.List.{List, [], ◌∷◌}
use native.Mathlib.Omega.{arith}
use native.Mathlib.Nat.{pow-suc, le_trans, lt_of_lt_of_le}
use lib.Dec.{eqb}
use lib.ListN.{length, get_or, get_or-eq_default}
use lib.Pow.{pow_mono, pow-add}
use lib.Count.{count_leading_zeros, leading_top, leading_of_zero}
use borrow.Author.Tests.{eq-eqb, ne_eqb, eqb-true}
use Rattle.basics.specs.Numbers.{u32_at, u64_at}
use Rattle.basics.proofs.Order.{lt-or-ge}
use Rattle.basics.proofs.Truth.{both_true, clash}
use Rattle.entries.specs.Entry.{count, entry_at, same_entry}
use Rattle.entries.specs.Length.{name_length, last_byte}
use Rattle.entries.specs.Bytes.{BytesIn}
use Rattle.entries.proofs.Entries.{entry-byte, entry_length, entry-eight, same_bytes}

-- the length is where the bytes that are all NUL begin, behind one that is not
pub length-is : (s : List ℕ) (n : ℕ) → ((j : ℕ) → n ≤ j → get_or s j 0 ≡ 0) → ((k : ℕ) → n ≡ suc k → get_or s k 0 ≡ 0 → ⊥) → name_length s ≡ n
unfolding name_length
length-is [] zero nul some = refl
length-is [] (suc k) nul some = absurd (some k refl refl)
length-is (b ∷ s) zero nul some =
    rw (length-is s zero (λ j l. nul (suc j) (omega arith)) (λ k e. absurd (omega arith)), eq-eqb b 0 (nul 0 (omega arith)))
length-is (b ∷ s) (suc m) nul some =
    rw (length-is s m (λ j l. nul (suc j) (omega arith)) (λ k e. some (suc k) (ap suc e))) (go m some)
  where
    go : (m : ℕ) → ((k : ℕ) → suc m ≡ suc k → get_or (b ∷ s) k 0 ≡ 0 → ⊥) → cond (eqb b 0 && eqb m 0) 0 (suc m) ≡ suc m
    go zero t = rw (ne_eqb b 0 (t 0 refl))
    go (suc m) t = rw (ne_eqb (suc m) 0 (λ e. omega arith), and-false (eqb b 0))

-- from there on every byte is NUL, past the end too
pub past-length : (s : List ℕ) (j : ℕ) → name_length s ≤ j → get_or s j 0 ≡ 0
unfolding name_length
past-length [] j l = refl
past-length (b ∷ s) j l = go (eqb b 0 && eqb (name_length s) 0) refl j l (λ i u. past-length s i u)
  where
    go : (t : Bool) → eqb b 0 && eqb (name_length s) 0 ≡ t → (j : ℕ) → cond t 0 (suc (name_length s)) ≤ j → ((i : ℕ) → name_length s ≤ i → get_or s i 0 ≡ 0)
        → get_or (b ∷ s) j 0 ≡ 0
    go true e zero l rest = eqb-true b 0 (both_true (eqb b 0) (eqb (name_length s) 0) e).0
    go true e (suc j) l rest = rest j (let z = eqb-true (name_length s) 0 (both_true (eqb b 0) (eqb (name_length s) 0) e).1 in omega arith)
    go false e zero l rest = absurd (omega arith)
    go false e (suc j) l rest = rest j (omega arith)

-- the byte before is not NUL
pub last_some : (s : List ℕ) (k : ℕ) → name_length s ≡ suc k → get_or s k 0 ≡ 0 → ⊥
unfolding name_length
last_some [] k e z = omega arith
last_some (b ∷ s) k e z = go (eqb b 0 && eqb (name_length s) 0) refl k e z (λ i q y. last_some s i q y)
  where
    go : (t : Bool) → eqb b 0 && eqb (name_length s) 0 ≡ t → (k : ℕ) → cond t 0 (suc (name_length s)) ≡ suc k → get_or (b ∷ s) k 0 ≡ 0
        → ((i : ℕ) → name_length s ≡ suc i → get_or s i 0 ≡ 0 → ⊥) → ⊥
    go true q k e z rest = omega arith
    go false q zero e z rest =
        let n : name_length s ≡ 0 = omega arith in
        let both : eqb b 0 && eqb (name_length s) 0 ≡ true = rw (eq-eqb b 0 z, eq-eqb (name_length s) 0 n) in
        clash both q
    go false q (suc k) e z rest = rest k (omega arith) z

pub length-le : (s : List ℕ) → name_length s ≤ length s
unfolding name_length
length-le [] = omega arith
length-le (b ∷ s) = go (eqb b 0 && eqb (name_length s) 0) (length-le s)
  where
    go : (t : Bool) → name_length s ≤ length s → cond t 0 (suc (name_length s)) ≤ length (b ∷ s)
    go true h = omega arith
    go false h = omega arith

-- as the last byte that is not NUL is found, or none
pub length-some : (s : List ℕ) (i : ℕ) → (i < length s) × (get_or s i 0 ≡ 0 → ⊥) × ((k : ℕ) → i < k → k < length s → get_or s k 0 ≡ 0) → i + 1 ≡ name_length s
length-some s i h =
    sym
    (length-is s (i + 1)
    (λ j l. ⊎_elim (λ (u : j < length s). h.2 j (omega arith) u) (λ (u : length s ≤ j). get_or-eq_default s 0 u) (lt-or-ge j (length s)))
    (λ k e z. h.1 (let q : k ≡ i = omega arith in rw q at z)))

pub length-none : (s : List ℕ) → ((k : ℕ) → k < length s → get_or s k 0 ≡ 0) → 0 ≡ name_length s
length-none s h =
    sym
    (length-is s 0
    (λ j l. ⊎_elim (λ (u : j < length s). h j u) (λ (u : length s ≤ j). get_or-eq_default s 0 u) (lt-or-ge j (length s)))
    (λ k e. absurd (omega arith)))

-- equal entries, or an entry and a name that equals it, are of one length and end in the same byte
module _ (a b : List ℕ) (s : same_entry a b ≡ true) (la : length a ≤ 32) (lb : length b ≤ 32) where
  pub same_length : name_length a ≡ name_length b
  same_length =
      length-is a (name_length b)
      (λ j l. ⊎_elim
      (λ (u : j < 32). same_bytes a b j s u ∙ past-length b j l)
      (λ (u : 32 ≤ j). get_or-eq_default a 0 (omega arith))
      (lt-or-ge j 32))
      (λ k e z. last_some b k e (sym (same_bytes a b k s (let l = length-le b in omega arith)) ∙ z))

  pub same-last : last_byte a ≡ last_byte b
  unfolding last_byte
  same-last = ap (λ (n : ℕ). get_or a (n - 1) 0) same_length ∙ same_bytes a b (name_length b - 1) s (let l = length-le b in omega arith)

-- a number by its bytes, the lowest first
number_of : List ℕ → ℕ
number_of [] = 0
number_of (b ∷ s) = b + 256 * number_of s

-- of a number below 256 ^ r the bytes from r on are 0
number-high : (s : List ℕ) (r j : ℕ) → number_of s < 256 ^ r → r ≤ j → get_or s j 0 ≡ 0
unfolding number_of
number-high [] r j h l = refl
number-high (b ∷ s) zero zero h l = let p : 256 ^ 0 ≡ 1 = refl in omega arith
number-high (b ∷ s) zero (suc j) h l = let p : 256 ^ 0 ≡ 1 = refl in number-high s zero j (omega arith) (omega arith)
number-high (b ∷ s) (suc r) zero h l = absurd (omega arith)
number-high (b ∷ s) (suc r) (suc j) h l = let p = pow-suc 256 r in number-high s r j (omega arith) (omega arith)

-- of one below 256 ^ (k + 1) and not below 256 ^ k byte k is not 0
number-top : (s : List ℕ) (k : ℕ) → ((j : ℕ) → get_or s j 0 < 256) → 256 ^ k ≤ number_of s → number_of s < 256 ^ suc k → get_or s k 0 ≡ 0 → ⊥
unfolding number_of
number-top [] k small lo hi z = positive k lo
  where
    positive : (k : ℕ) → 256 ^ k ≤ 0 → ⊥
    positive zero l = let p : 256 ^ 0 ≡ 1 = refl in omega arith
    positive (suc k) l = let p = pow-suc 256 k in positive k (omega arith)
number-top (b ∷ s) zero small lo hi z = let p : 256 ^ 0 ≡ 1 = refl in let q = pow-suc 256 0 in omega arith
number-top (b ∷ s) (suc k) small lo hi z =
    let p = pow-suc 256 k in
    let q = pow-suc 256 (suc k) in
    let l : b < 256 = small 0 in
    number-top s k (λ j. small (suc j)) (omega arith) (omega arith) z

-- eight bytes of a list at a place
module _ (e : List ℕ) (p : ℕ) where
  word : List ℕ
  word =
      get_or e p 0 ∷ get_or e (p + 1) 0 ∷ get_or e (p + 2) 0 ∷ get_or e (p + 3) 0 ∷ get_or e (p + 4) 0 ∷ get_or e (p + 4 + 1) 0 ∷ get_or e (p + 4 + 2) 0
      ∷ get_or e (p + 4 + 3) 0 ∷ []

  word_number : number_of word ≡ u64_at e p
  unfolding u32_at word number_of
  word_number = omega arith

  word_byte : (j : ℕ) → j < 8 → get_or word j 0 ≡ get_or e (p + j) 0
  unfolding word
  word_byte zero l = let k : p ≡ p + 0 = omega arith in ap (λ (n : ℕ). get_or e n 0) k
  word_byte (suc zero) l = refl
  word_byte (suc (suc zero)) l = refl
  word_byte (suc (suc (suc zero))) l = refl
  word_byte (suc (suc (suc (suc zero)))) l = refl
  word_byte (suc (suc (suc (suc (suc zero))))) l = let k : p + 4 + 1 ≡ p + 5 = omega arith in ap (λ (n : ℕ). get_or e n 0) k
  word_byte (suc (suc (suc (suc (suc (suc zero)))))) l = let k : p + 4 + 2 ≡ p + 6 = omega arith in ap (λ (n : ℕ). get_or e n 0) k
  word_byte (suc (suc (suc (suc (suc (suc (suc zero))))))) l = let k : p + 4 + 3 ≡ p + 7 = omega arith in ap (λ (n : ℕ). get_or e n 0) k
  word_byte (suc (suc (suc (suc (suc (suc (suc (suc j)))))))) l = absurd (omega arith)

  word-past : (j : ℕ) → 8 ≤ j → get_or word j 0 ≡ 0
  unfolding word
  word-past j u = get_or-eq_default word 0 u

  word_small : ((j : ℕ) → get_or e j 0 < 256) → (j : ℕ) → get_or word j 0 < 256
  word_small small j =
      ⊎_elim
      (λ (u : j < 8). rw (word_byte j u) (small (p + j)))
      (λ (u : 8 ≤ j). rw (word-past j u) (omega arith))
      (lt-or-ge j 8)

  -- where the bytes behind them are NUL, the length is told by their number
  module _ (small : (j : ℕ) → get_or e j 0 < 256) (nul : (j : ℕ) → p + 8 ≤ j → get_or e j 0 ≡ 0) where
    pub word-zero : u64_at e p ≡ 0 → (j : ℕ) → p ≤ j → get_or e j 0 ≡ 0
    word-zero z j l =
        ⊎_elim
        (λ (u : j < p + 8). here u)
        (λ (u : p + 8 ≤ j). nul j u)
        (lt-or-ge j (p + 8))
      where
        here : j < p + 8 → get_or e j 0 ≡ 0
        here u =
            let k : p + (j - p) ≡ j = omega arith in
            rw (← k) (sym (word_byte (j - p) (omega arith)) ∙ number-high word 0 (j - p) (let n = word_number in omega arith) (omega arith))

    pub word-length : (r : ℕ) → BytesIn (u64_at e p) r → (p ≡ 0) ⊎ (u64_at e p ≡ 0 → ⊥) → name_length e ≡ p + r
    word-length r b some = length-is e (p + r) high top
      where
        high : (j : ℕ) → p + r ≤ j → get_or e j 0 ≡ 0
        high j l =
            ⊎_elim
            (λ (u : j < p + 8). let k : p + (j - p) ≡ j = omega arith in rw (← k) (sym (word_byte (j - p) (omega arith)) ∙ number-high word r (j - p) (rw word_number b.below) (omega arith)))
            (λ (u : p + 8 ≤ j). nul j u)
            (lt-or-ge j (p + 8))

        here : (k m : ℕ) → r ≡ suc m → p + r ≡ suc k → get_or e k 0 ≡ 0 → ⊥
        here k m em ek z =
            let q : k ≡ p + m = omega arith in
            number-top word m (word_small small) (rw word_number (b.top m em)) (rw word_number (rw em at b).below) (word_byte m (let l = b.most in omega arith) ∙ (rw q at z))

        none : r ≡ 0 → u64_at e p ≡ 0
        none z = let h = (rw z at b).below in omega arith

        top : (k : ℕ) → p + r ≡ suc k → get_or e k 0 ≡ 0 → ⊥
        top k ek z = go r refl
          where
            go : (x : ℕ) → r ≡ x → ⊥
            go zero er = ⊎_elim (λ (u : p ≡ 0). omega arith) (λ (u : u64_at e p ≡ 0 → ⊥). u (none er)) some
            go (suc m) er = here k m er ek z

-- the four numbers of an entry, from the last on
module _ (list : List ℕ) (i : ℕ) (h : i < count list) (small : (j : ℕ) → get_or list j 0 < 256) where
  entry-small : (j : ℕ) → get_or (entry_at list i) j 0 < 256
  entry-small j =
      ⊎_elim
      (λ (l : j < 32). omega (arith, entry-byte list i h j l, small (i * 32 + j)))
      (λ (l : 32 ≤ j). let over : length (entry_at list i) ≤ j = omega (arith, entry_length list i h) in rw (get_or-eq_default (entry_at list i) 0 over) (omega arith))
      (lt-or-ge j 32)

  entry-end : (j : ℕ) → 24 + 8 ≤ j → get_or (entry_at list i) j 0 ≡ 0
  entry-end j l = get_or-eq_default (entry_at list i) 0 (omega (arith, entry_length list i h))

  module _ (d : ℕ) (ed : d ≡ u64_at list (i * 32 + 24)) where
    fourth : d ≡ u64_at (entry_at list i) 24
    fourth = ed ∙ sym (entry-eight list i h 24 (i * 32 + 24) (omega arith) refl)

    pub in-fourth : (d ≡ 0 → ⊥) → (r : ℕ) → BytesIn d r → 24 + r ≡ name_length (entry_at list i)
    in-fourth n r b = sym (word-length (entry_at list i) 24 entry-small entry-end r (rw fourth at b) (inr (λ z. n (fourth ∙ z))))

    module _ (zd : d ≡ 0) (c : ℕ) (ec : c ≡ u64_at list (i * 32 + 16)) where
      third : c ≡ u64_at (entry_at list i) 16
      third = ec ∙ sym (entry-eight list i h 16 (i * 32 + 16) (omega arith) refl)

      past-third : (j : ℕ) → 16 + 8 ≤ j → get_or (entry_at list i) j 0 ≡ 0
      past-third j l = word-zero (entry_at list i) 24 entry-small entry-end (sym fourth ∙ zd) j l

      pub in-third : (c ≡ 0 → ⊥) → (r : ℕ) → BytesIn c r → 16 + r ≡ name_length (entry_at list i)
      in-third n r b = sym (word-length (entry_at list i) 16 entry-small past-third r (rw third at b) (inr (λ z. n (third ∙ z))))

      module _ (zc : c ≡ 0) (b : ℕ) (eb : b ≡ u64_at list (i * 32 + 8)) where
        second : b ≡ u64_at (entry_at list i) 8
        second = eb ∙ sym (entry-eight list i h 8 (i * 32 + 8) (omega arith) refl)

        past-second : (j : ℕ) → 8 + 8 ≤ j → get_or (entry_at list i) j 0 ≡ 0
        past-second j l = word-zero (entry_at list i) 16 entry-small past-third (sym third ∙ zc) j l

        pub in-second : (b ≡ 0 → ⊥) → (r : ℕ) → BytesIn b r → 8 + r ≡ name_length (entry_at list i)
        in-second n r k = sym (word-length (entry_at list i) 8 entry-small past-second r (rw second at k) (inr (λ z. n (second ∙ z))))

        pub in-first : b ≡ 0 → (a r : ℕ) → a ≡ u64_at list (i * 32) → BytesIn a r → r ≡ name_length (entry_at list i)
        in-first zb a r ea k =
            let f : a ≡ u64_at (entry_at list i) 0 = ea ∙ sym (entry-eight list i h 0 (i * 32) (omega arith) (omega arith)) in
            sym (word-length (entry_at list i) 0 entry-small (λ j l. word-zero (entry_at list i) 8 entry-small past-second (sym second ∙ zb) j l) r (rw f at k) (inl refl) ∙ zero-plus r)
          where
            zero-plus : (r : ℕ) → 0 + r ≡ r
            zero-plus r = omega arith

-- the bytes of a number by its leading zeros
power : (r : ℕ) → 256 ^ r ≡ 2 ^ (8 * r)
power zero = refl
power (suc r) =
    let e : 8 * suc r ≡ 8 * r + 8 = omega arith in
    pow-suc 256 r ∙ ap (λ (x : ℕ). x * 256) (power r) ∙ sym (rw e (pow-add 2 (8 * r) 8))

-- by the place j of its highest bit
bits_in : (x z j : ℕ) → z + suc j ≡ 64 → 2 ^ j ≤ x → x < 2 ^ suc j → BytesIn x (8 - z / 8)
bits_in x z j sum lo hi = record {
  most = omega arith;
  below = rw (power (8 - z / 8)) (let m = pow_mono {i = suc j} {j = 8 * (8 - z / 8)} (omega arith) in lt_of_lt_of_le hi m);
  top = λ k e. rw (power k) (le_trans (pow_mono {i = 8 * k} {j = j} (omega arith)) lo);
}

pub bytes-in : (x : ℕ) → x < 2 ^ 64 → BytesIn x (8 - count_leading_zeros 64 x / 8)
bytes-in zero h = rw (leading_of_zero 64) (record { most = omega arith; below = omega arith; top = λ k e. absurd (omega arith) })
bytes-in (suc n) h = let t = leading_top 64 (suc n) (omega arith) h in bits_in (suc n) (count_leading_zeros 64 (suc n)) t.0 t.1 t.2 t.3
