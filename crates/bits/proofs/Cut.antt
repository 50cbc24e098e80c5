-- Laws of the bits below a bound: the words of all of them, a word cut there, and whether a word has bits past it.
use Prim.Native.Nat.{ℕ, ◌+◌, ◌-◌, ◌*◌, ◌/◌, ◌%◌, ◌^◌, ◌≤◌, ◌<◌}
use mathlib.Core.Path.{◌≡◌, refl, sym, ap, ◌∙◌}
use mathlib.Core.Bool.{Bool, true, false, ◌&&◌, ◌||◌, not, and-true, and-false, or-true}
use mathlib.Core.Logic.{⊎_elim}
use mathlib.Core.List.{List}
use native.Mathlib.Omega.{arith}
use lib.Dec.{eqb, leb, ltb, lit<}
use lib.Bits.{bit_and, and_lt}
use lib.Pow.{pow_pos}
use lib.ListN.{length, get_or}
use borrow.Author.Tests.{lt-ltb, le-ltb, le-leb, lt-leb, eqb-true, eqb-false}
use Rattle.basics.specs.Scan.{any}
use Rattle.basics.proofs.Order.{lt-or-ge}
use Rattle.basics.proofs.Truth.{true_of, false_of, clash}
use Rattle.basics.proofs.Scan.{all_of, all-each, any_none, any-not}
use Rattle.bits.specs.Bit.{test, number}
use Rattle.bits.specs.Set.{has, word_of, all_below, clear_from, none_from, past, some_past}
use Rattle.bits.specs.Between.{is_between, bit_between}
use Rattle.bits.specs.Change.{Below}
use Rattle.bits.proofs.Bit.{number_lt, test-number, number-ext, test-and, shl_one, test-ones, test_zero}
use Rattle.bits.proofs.Words.{has_word, has-past}

-- word j of all bits below n: full, empty, or the one where n stands
module _ (n j : ℕ) where
  pub below-full : j < n / 32 → 4294967295 ≡ word_of (all_below n) j
  below-full h =
      number-ext 32 4294967295 (λ b. all_below n (j * 32 + b)) (lit< tt)
      (λ b l. test-ones 32 b ∙ lt-ltb b 32 l ∙ sym (lt-ltb (j * 32 + b) n (omega arith)))

  pub below-empty : n / 32 < j → 0 ≡ word_of (all_below n) j
  below-empty h =
      number-ext 32 0 (λ b. all_below n (j * 32 + b)) (lit< tt) (λ b l. test_zero b ∙ sym (le-ltb (j * 32 + b) n (omega arith)))

  pub one_shifted : 1 ≤ (1 * 2 ^ (n % 32)) % 2 ^ 32
  one_shifted = omega (arith, shl_one (n % 32) (omega arith), pow_pos (n % 32))

  pub below-part : n / 32 ≤ j → j ≤ n / 32 → (1 * 2 ^ (n % 32)) % 2 ^ 32 - 1 ≡ word_of (all_below n) j
  below-part h k =
      number-ext 32 ((1 * 2 ^ (n % 32)) % 2 ^ 32 - 1) (λ b. all_below n (j * 32 + b)) small
      (λ b l. ap (λ (x : ℕ). test (x - 1) b) (shl_one (n % 32) (omega arith)) ∙ test-ones (n % 32) b ∙ same b l)
    where
      small : (1 * 2 ^ (n % 32)) % 2 ^ 32 - 1 < 2 ^ 32
      small = omega arith

      same : (b : ℕ) → b < 32 → ltb b (n % 32) ≡ ltb (j * 32 + b) n
      same b l =
          ⊎_elim
          (λ (q : b < n % 32). lt-ltb b (n % 32) q ∙ sym (lt-ltb (j * 32 + b) n (omega arith)))
          (λ (q : n % 32 ≤ b). le-ltb b (n % 32) q ∙ sym (le-ltb (j * 32 + b) n (omega arith)))
          (lt-or-ge b (n % 32))

-- a word and all bits below n
pub cut-is : (w n j m : ℕ) → w < 2 ^ 32 → m ≡ word_of (all_below n) j
    → bit_and w m ≡ number 32 (λ b. test w b && all_below n (j * 32 + b))
cut-is w n j m h e =
    number-ext 32 (bit_and w m) (λ b. test w b && all_below n (j * 32 + b))
    (and_lt 32 w m h (omega (arith, number_lt 32 (λ b. all_below n (j * 32 + b)))))
    (λ b l. test-and w m b ∙ ap (λ (t : Bool). test w b && t) (ap (λ (x : ℕ). test x b) e ∙ test-number 32 (λ b. all_below n (j * 32 + b)) b l))

-- a word is what is left of it exactly when all its bits are kept
module _ (w r : ℕ) (g : ℕ → Bool) (e : r ≡ number 32 (λ b. test w b && g b)) where
  pub kept-each : w ≡ r → (b : ℕ) → b < 32 → test w b ≡ true → g b ≡ true
  kept-each q b l t =
      let z : test w b ≡ test w b && g b = ap (λ (x : ℕ). test x b) (q ∙ e) ∙ test-number 32 (λ b. test w b && g b) b l in
      sym (rw t at z)

  pub each-kept : w < 2 ^ 32 → ((b : ℕ) → b < 32 → test w b ≡ true → g b ≡ true) → w ≡ r
  each-kept h k = number-ext 32 w (λ b. test w b && g b) h (λ b l. go b l (test w b) refl) ∙ sym e
    where
      go : (b : ℕ) → b < 32 → (t : Bool) → test w b ≡ t → test w b ≡ test w b && g b
      go b l true q = q ∙ sym (rw (q, k b l q))
      go b l false q = q ∙ sym (rw q)

test-cut : (w j size c : ℕ) → c ≡ number 32 (λ b. test w b && all_below size (j * 32 + b)) → (b : ℕ) → b < 32 → test c b ≡ test w b && ltb (j * 32 + b) size
test-cut w j size c ec b l = ap (λ (x : ℕ). test x b) ec ∙ test-number 32 (λ b. test w b && all_below size (j * 32 + b)) b l

-- a word cut at size, and cut again at n: a bit is lost exactly when there is one between
module _ (w j n size c d : ℕ) (ec : c ≡ number 32 (λ b. test w b && all_below size (j * 32 + b)))
    (ed : d ≡ number 32 (λ b. test c b && all_below n (j * 32 + b))) where
  none-lost : c ≡ d → bit_between w j n size ≡ false
  unfolding bit_between is_between
  none-lost q =
      any_none (is_between w j n size) 32
      (λ b l. false_of (is_between w j n size b)
      (λ (z : leb n (j * 32 + b) && test w b && ltb (j * 32 + b) size ≡ true).
      ⊎_elim
      (λ (p : j * 32 + b < n). clash z (rw (lt-leb n (j * 32 + b) p)))
      (λ (p : n ≤ j * 32 + b). clash (kept-each c d (λ b. all_below n (j * 32 + b)) ed q b l (test-cut w j size c ec b l ∙ (rw (le-leb n (j * 32 + b) p) at z))) (le-ltb (j * 32 + b) n p))
      (lt-or-ge (j * 32 + b) n)))

  lost-some : c < 2 ^ 32 → (c ≡ d → ⊥) → bit_between w j n size ≡ true
  unfolding bit_between is_between
  lost-some h ne =
      true_of (bit_between w j n size)
      (λ z. ne
      (each-kept c d (λ b. all_below n (j * 32 + b)) ed h
      (λ b l t. let k : leb n (j * 32 + b) && test w b && ltb (j * 32 + b) size ≡ false = any-not (is_between w j n size) 32 b z l in
      ⊎_elim
      (λ (p : j * 32 + b < n). lt-ltb (j * 32 + b) n p)
      (λ (p : n ≤ j * 32 + b). absurd (clash (sym (test-cut w j size c ec b l) ∙ t) (rw (le-leb n (j * 32 + b) p) at k)))
      (lt-or-ge (j * 32 + b) n))))

  pub between_is : not (eqb c d) ≡ bit_between w j n size
  between_is = go (eqb c d) refl
    where
      small : c < 2 ^ 32
      small = omega (arith, ec, number_lt 32 (λ b. test w b && all_below size (j * 32 + b)))

      go : (t : Bool) → eqb c d ≡ t → not t ≡ bit_between w j n size
      go true q = sym (none-lost (eqb-true c d q))
      go false q = sym (lost-some small (eqb-false c d q))

-- no bit at or past n, word by word: those below word j are clear
abbrev pub Clear : List ℕ → ℕ → ℕ → Type 0
Clear ws n j = (i : ℕ) → i < j * 32 → clear_from n (has ws) i ≡ true

module _ (ws : List ℕ) (n : ℕ) where
  pub clear-start : Clear ws n (n / 32)
  unfolding clear_from
  clear-start i h = rw (lt-ltb i n (omega arith))

  pub clear-done : (j : ℕ) → length ws ≤ j → Clear ws n j → true ≡ none_from ws n
  unfolding none_from
  clear-done j h k = sym (all_of (clear_from n (has ws)) (length ws * 32) (λ i l. k i (omega arith)))

  module _ (j r : ℕ) (e : r ≡ number 32 (λ b. test (get_or ws j 0) b && all_below n (j * 32 + b))) where
    pub clear-more : get_or ws j 0 ≡ r → Clear ws n j → Clear ws n (j + 1)
    unfolding clear_from
    clear-more q k i l = ⊎_elim (λ (p : i < j * 32). k i p) (λ (p : j * 32 ≤ i). here p) (lt-or-ge i (j * 32))
      where
        here : j * 32 ≤ i → clear_from n (has ws) i ≡ true
        here p =
            let b : i ≡ j * 32 + (i - j * 32) = omega arith in
            let u : i - j * 32 < 32 = omega arith in
            ap (clear_from n (has ws)) b ∙ by (test (get_or ws j 0) (i - j * 32)) refl (has_word ws j (i - j * 32) u)
          where
            by : (t : Bool) → test (get_or ws j 0) (i - j * 32) ≡ t → has ws (j * 32 + (i - j * 32)) ≡ test (get_or ws j 0) (i - j * 32)
                → ltb (j * 32 + (i - j * 32)) n || not (has ws (j * 32 + (i - j * 32))) ≡ true
            by true et eh = rw (kept-each (get_or ws j 0) r (λ b. all_below n (j * 32 + b)) e q (i - j * 32) (omega arith) et)
            by false et eh = rw (eh, et) (or-true (ltb (j * 32 + (i - j * 32)) n))

    pub clear-not : j < length ws → get_or ws j 0 < 2 ^ 32 → (get_or ws j 0 ≡ r → ⊥) → false ≡ none_from ws n
    unfolding none_from clear_from
    clear-not l small ne =
        sym (false_of (none_from ws n) (λ z. ne (each-kept (get_or ws j 0) r (λ b. all_below n (j * 32 + b)) e small (λ b u t. go b u t (all-each (clear_from n (has ws)) (length ws * 32) (j * 32 + b) z (omega arith))))))
      where
        go : (b : ℕ) → b < 32 → test (get_or ws j 0) b ≡ true → ltb (j * 32 + b) n || not (has ws (j * 32 + b)) ≡ true → ltb (j * 32 + b) n ≡ true
        go b u t z = by (ltb (j * 32 + b) n) (rw (has_word ws j b u ∙ t) at z)
          where
            by : (x : Bool) → x || not true ≡ true → x ≡ true
            by true p = refl
            by false p = p

-- what it means: the set of the words is below n
pub none_below : (ws : List ℕ) (n : ℕ) → none_from ws n ≡ true → Below n (has ws)
unfolding none_from clear_from
none_below ws n h i l =
    ⊎_elim
    (λ (q : i < length ws * 32). by (has ws i) (rw (le-ltb i n l) at (all-each (clear_from n (has ws)) (length ws * 32) i h q)))
    (λ (q : length ws * 32 ≤ i). has-past ws i (omega arith))
    (lt-or-ge i (length ws * 32))
  where
    by : (x : Bool) → not x ≡ true → x ≡ false
    by true p = sym p
    by false p = refl

pub below_none : (ws : List ℕ) (n : ℕ) → Below n (has ws) → none_from ws n ≡ true
unfolding none_from clear_from
below_none ws n h =
    all_of (clear_from n (has ws)) (length ws * 32)
    (λ i l. ⊎_elim (λ (q : i < n). rw (lt-ltb i n q)) (λ (q : n ≤ i). rw (le-ltb i n q, h i q)) (lt-or-ge i n))

-- a bit between n and size, word by word: there is none below word j
abbrev pub NonePast : List ℕ → ℕ → ℕ → ℕ → Type 0
NonePast ws n size j = (i : ℕ) → i < j * 32 → i < size → past n (has ws) i ≡ false

module _ (ws : List ℕ) (n size : ℕ) where
  pub past-start : NonePast ws n size (n / 32)
  unfolding past
  past-start i h l = rw (lt-leb n i (omega arith))

  pub past-done : (j : ℕ) → length ws ≤ j → NonePast ws n size j → false ≡ some_past (has ws) n size
  unfolding some_past past
  past-done j h k =
      sym
      (any_none (past n (has ws)) size
      (λ i l. ⊎_elim (λ (q : i < j * 32). k i q l) (λ (q : j * 32 ≤ i). rw (has-past ws i (omega arith)) (and-false (leb n i))) (lt-or-ge i (j * 32))))

  module _ (j w : ℕ) (ew : w ≡ get_or ws j 0) (t : Bool) (e : t ≡ bit_between w j n size) where
    at : (b : ℕ) → b < 32 → is_between w j n size b ≡ past n (has ws) (j * 32 + b) && ltb (j * 32 + b) size
    unfolding is_between past
    at b l = ap (λ (x : Bool). leb n (j * 32 + b) && x && ltb (j * 32 + b) size) (ap (λ (x : ℕ). test x b) ew ∙ sym (has_word ws j b l))

    pub past_more : t ≡ false → NonePast ws n size j → NonePast ws n size (j + 1)
    unfolding bit_between
    past_more q k i l u = ⊎_elim (λ (p : i < j * 32). k i p u) (λ (p : j * 32 ≤ i). here p) (lt-or-ge i (j * 32))
      where
        here : j * 32 ≤ i → past n (has ws) i ≡ false
        here p =
            let b : i ≡ j * 32 + (i - j * 32) = omega arith in
            let z = sym (at (i - j * 32) (omega arith)) ∙ any-not (is_between w j n size) 32 (i - j * 32) (sym e ∙ q) (omega arith) in
            sym (and-true (past n (has ws) i)) ∙ (rw (← b, lt-ltb i size u) at z)

    pub past-found : t ≡ true → true ≡ some_past (has ws) n size
    unfolding some_past bit_between
    past-found q =
        sym (true_of (some_past (has ws) n size) (λ z. clash (sym e ∙ q) (any_none (is_between w j n size) 32 (λ b l. at b l ∙ go b l z))))
      where
        go : (b : ℕ) → b < 32 → any size (past n (has ws)) ≡ false → past n (has ws) (j * 32 + b) && ltb (j * 32 + b) size ≡ false
        go b l z =
            ⊎_elim
            (λ (p : j * 32 + b < size). rw (any-not (past n (has ws)) size (j * 32 + b) z p))
            (λ (p : size ≤ j * 32 + b). rw (le-ltb (j * 32 + b) size p) (and-false (past n (has ws) (j * 32 + b))))
            (lt-or-ge (j * 32 + b) size)
