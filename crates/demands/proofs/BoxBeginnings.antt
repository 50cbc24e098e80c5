-- Beginnings of what keeps a rule of the box (`demands` BoxRules, BoxFault).
--     roll-beginning       a beginning of a port roll that is whole records is a port roll
--     list-beginning       so is one of a name list
--     settings-beginning   fewer words of right settings, with zeros behind them, are right settings
--     first_word           behind the longest such beginning stands the first word that holds a bit at or past N of its set
use Prim.Native.Nat.{ℕ, ◌+◌, ◌-◌, ◌*◌, ◌/◌, ◌%◌, ◌^◌, ◌≤◌, ◌<◌}
use mathlib.Core.Path.{◌≡◌, refl, sym, ap, ◌∙◌}
use mathlib.Core.List.{List, ◌++◌, append-nil}
use mathlib.Core.Logic.{⊎_elim}
use lib.ListN.{length, take, get_or, replicate, length-append, length-replicate, length-take, get_or-replicate, get_or-append, get_or-eq_default}
use lib.Seq.{length-take-le, take_all, take-length, get_or-take, get_or-append-add}
use native.Mathlib.Nat.{zero-div}
use native.Mathlib.Omega.{arith}
use Rattle.basics.specs.Numbers.{u32_at}
use Rattle.basics.proofs.Order.{lt-or-ge}
use Rattle.bits.specs.Bit.{bit}
use Rattle.demands.specs.BoxRules.{NameField, FieldsDiffer, NameList, RollRecord, PortRoll, ClearFrom, Settings}
use Rattle.demands.specs.BoxFault.{LongestRight, all_words, zeros_behind, RightBeginning, ClearAt, ClearWord, FirstWord}

-- the first n bytes: what stands in them is as before
module _ (s : List ℕ) (n : ℕ) where
  byte-same : (i : ℕ) → i < n → get_or (take n s) i 0 ≡ get_or s i 0
  byte-same i l = get_or-take n s i 0 l

  number_same : (at : ℕ) → at + 4 ≤ n → u32_at (take n s) at ≡ u32_at s at
  unfolding u32_at
  number_same at l =
      rw (byte-same at (omega arith), byte-same (at + 1) (omega arith), byte-same (at + 2) (omega arith), byte-same (at + 3) (omega arith))

  abbrev field-same : (at width : ℕ) → at + width ≤ n → NameField s at width → NameField (take n s) at width
  field-same at width l f =
      record {
        size = f.size;
        short = f.short;
        name = λ i u z. f.name i u (sym (byte-same (at + i) (let h = f.short in omega arith)) ∙ z);
        nuls = λ i u v. byte-same (at + i) (omega arith) ∙ f.nuls i u v;
      }

  differ_same : (width a b : ℕ) → a + width ≤ n → b + width ≤ n → FieldsDiffer s width a b → FieldsDiffer (take n s) width a b
  differ_same width a b l u d =
      let h = d.inside in
      record {
        byte = d.byte;
        inside = h;
        unlike = λ z. d.unlike (sym (byte-same (a + d.byte) (omega arith)) ∙ z ∙ byte-same (b + d.byte) (omega arith));
      }

-- a roll
module _ (roll : List ℕ) (r : PortRoll roll) (k : ℕ) (some : 1 ≤ k) (inside : k * 21 ≤ length roll) where
  fewer : k ≤ r.ports
  fewer = let w = r.whole in omega arith

  record_same : (j : ℕ) → j < k → RollRecord (take (k * 21) roll) (j * 21)
  record_same j l =
      let e = r.each j (let f = fewer in omega arith) in
      let same = number_same roll (k * 21) (j * 21 + 1) (omega arith) in
      record {
        kind = byte-same roll (k * 21) (j * 21) (omega arith) ∙ e.kind;
        index-low = rw same e.index-low;
        index-high = rw same e.index-high;
        name = field-same roll (k * 21) (j * 21 + 5) 16 (omega arith) e.name;
        named = e.named;
      }

  pub roll-beginning : PortRoll (take (k * 21) roll)
  roll-beginning =
      let f = fewer in
      let few = r.few in
      record {
        ports = k;
        some = some;
        few = omega arith;
        whole = length-take-le (k * 21) roll inside;
        each = record_same;
        indexes = λ i j l u e. r.indexes i j l (omega arith)
            (sym (number_same roll (k * 21) (i * 21 + 1) (omega arith)) ∙ e ∙ number_same roll (k * 21) (j * 21 + 1) (omega arith));
        names = λ i j l u. differ_same roll (k * 21) 16 (i * 21 + 5) (j * 21 + 5) (omega arith) (omega arith) (r.names i j l (omega arith));
      }

-- a name list
module _ (names : List ℕ) (r : NameList names) (k : ℕ) (some : 1 ≤ k) (inside : k * 32 ≤ length names) where
  less : k ≤ r.entries
  less = let w = r.whole in omega arith

  pub list-beginning : NameList (take (k * 32) names)
  list-beginning =
      let f = less in
      let few = r.few in
      record {
        entries = k;
        some = some;
        few = omega arith;
        whole = length-take-le (k * 32) names inside;
        each = λ i l. field-same names (k * 32) (i * 32) 32 (omega arith) (r.each i (omega arith));
        distinct = λ i j l u x y. differ_same names (k * 32) 32 (i * 32) (j * 32) (omega arith) (omega arith)
            (r.distinct i j l (omega arith) (λ z. x (byte-same names (k * 32) (i * 32) (omega arith) ∙ z))
            (λ z. y (byte-same names (k * 32) (j * 32) (omega arith) ∙ z)));
      }

-- words with zeros behind them
zeros-long : (n : ℕ) (words : List ℕ) → length words ≤ n → length (zeros_behind n words) ≡ n
unfolding zeros_behind
zeros-long n words l = length-append words (replicate (n - length words) 0) ∙ ap (λ (k : ℕ). length words + k) (length-replicate (n - length words) 0) ∙ omega arith

long-zeros : (n : ℕ) (words : List ℕ) → length (zeros_behind n words) ≡ n → length words ≤ n
unfolding zeros_behind
long-zeros n words e =
    let a = length-append words (replicate (n - length words) 0) in
    omega arith

none-there : (n j : ℕ) → ◌≡◌ {A = ℕ} (get_or (replicate n 0) j 0) 0
none-there n j =
    ⊎_elim
    (λ (l : j < n). get_or-replicate n j 0 0 l)
    (λ (l : n ≤ j). get_or-eq_default (replicate n 0) 0 (omega (arith, length-replicate {A = ℕ} n 0)))
    (lt-or-ge j n)

zeros-behind : (n : ℕ) (words : List ℕ) (j : ℕ) → get_or (zeros_behind n words) j 0 ≡ get_or words j 0
unfolding zeros_behind
zeros-behind n words j =
    ⊎_elim
    (λ (l : j < length words). get_or-append words (replicate (n - length words) 0) 0 j l)
    (λ (l : length words ≤ j). let k : length words + (j - length words) ≡ j = omega arith in
    ap (λ (i : ℕ). get_or (words ++ replicate (n - length words) 0) i 0) (sym k)
    ∙ get_or-append-add words (replicate (n - length words) 0) (j - length words) 0
    ∙ none-there (n - length words) (j - length words)
    ∙ sym (get_or-eq_default words 0 l))
    (lt-or-ge j (length words))

zeros-none : (n : ℕ) (words : List ℕ) → length words ≡ n → zeros_behind n words ≡ words
unfolding zeros_behind
zeros-none n words e = let q : n - length words ≡ 0 = omega arith in ap (λ (k : ℕ). words ++ replicate k 0) q ∙ append-nil words

-- so many words and zeros, of which each word is clear
module _ (ports debug flags : ℕ) where
  abbrev all : ℕ
  all = all_words ports debug flags

  -- the bits of a word
  bit-same : (x y b : ℕ) → x ≡ y → bit x b ≡ bit y b
  bit-same x y b e = ap (λ (z : ℕ). bit z b) e

  bit-none : (x b : ℕ) → x ≡ 0 → bit x b ≡ 0
  bit-none x b e = bit-same x 0 b e ∙ ap (λ (y : ℕ). y % 2) (zero-div (2 ^ b))

  module _ (words : List ℕ) (n : ℕ) (few : length (take n words) ≤ all) (clear : (j : ℕ) → j < n → ClearWord ports debug flags words j) where
    from-clear : (N at : ℕ) → ((j : ℕ) → j < n → ClearAt N words at j) → ClearFrom N (zeros_behind all (take n words)) at
    from-clear N at h i l u =
        ⊎_elim
        (λ (v : at + i / 32 < n). bit-same _ _ (i % 32) (zeros-behind all (take n words) (at + i / 32) ∙ get_or-take n words (at + i / 32) 0 v)
        ∙ h (at + i / 32) v i l u refl)
        (λ (v : n ≤ at + i / 32). bit-none _ (i % 32)
        (zeros-behind all (take n words) (at + i / 32) ∙ get_or-eq_default (take n words) 0 (let e = length-take n words in omega arith)))
        (lt-or-ge (at + i / 32) n)

    clear-right : RightBeginning ports debug flags (take n words)
    clear-right =
        record {
          exact = zeros-long all (take n words) few;
          debug-clear = λ p l. from-clear debug _ (λ j u. (clear j u).debug-clear p l);
          flags-clear = λ p l. from-clear flags _ (λ j u. (clear j u).flags-clear p l);
        }

  module _ (words : List ℕ) (n : ℕ) (r : RightBeginning ports debug flags (take n words)) where
    to_clear : (N at : ℕ) → ClearFrom N (zeros_behind all (take n words)) at → (j : ℕ) → j < n → ClearAt N words at j
    to_clear N at h j l i low high e =
        bit-same _ _ (i % 32)
        (sym (zeros-behind all (take n words) (at + i / 32) ∙ ap (λ (k : ℕ). get_or (take n words) k 0) e ∙ get_or-take n words j 0 l))
        ∙ h i low high

    right-clear : (j : ℕ) → j < n → ClearWord ports debug flags words j
    right-clear j l =
        record {
          debug-clear = λ p u. to_clear debug _ (r.debug-clear p u) j l;
          flags-clear = λ p u. to_clear flags _ (r.flags-clear p u) j l;
        }

  pub settings-beginning : (words : List ℕ) → RightBeginning ports debug flags words → (k : ℕ) → k ≤ length words → RightBeginning ports debug flags (take k words)
  settings-beginning words r k u =
      let long = long-zeros all words r.exact in
      let whole : RightBeginning ports debug flags (take (length words) words) = rw (take-length words) r in
      clear-right words k (let e = length-take k words in omega arith) (λ j l. right-clear words (length words) whole j (omega arith))

  -- the first word at fault
  module _ (words : List ℕ) (exact : length words ≡ all) (wrong : Settings ports debug flags words → ⊥) (n : ℕ)
      (longest : LongestRight (RightBeginning ports debug flags) 1 words n) where
    clear-before : (j : ℕ) → j < n → ClearWord ports debug flags words j
    clear-before j l = right-clear words n (longest.right (omega arith)) j l

    shorter-right : (k : ℕ) → k ≤ length words → ((j : ℕ) → j < k → ClearWord ports debug flags words j) → RightBeginning ports debug flags (take k words)
    shorter-right k u clear = clear-right words k (let e = length-take k words in omega arith) clear

    not-all : n < length words
    not-all =
        ⊎_elim
        (λ (l : n < length words). l)
        (λ (l : length words ≤ n). absurd
        (wrong (rw (take_all n words l, zeros-none all words exact) at (shorter-right n longest.inside clear-before))))
        (lt-or-ge n (length words))

    next-clear : ClearWord ports debug flags words n → (j : ℕ) → j < n + 1 → ClearWord ports debug flags words j
    next-clear here j l =
        ⊎_elim (λ (u : j < n). clear-before j u) (λ (u : n ≤ j). let q : n ≡ j = omega arith in rw q at here) (lt-or-ge j n)

    pub first_word : FirstWord ports debug flags words n
    first_word =
        record {
          longest = longest;
          inside = not-all;
          before = clear-before;
          here = λ c. let u = not-all in longest.longer (n + 1) (omega arith) (omega arith) (shorter-right (n + 1) (omega arith) (next-clear c));
        }
