-- Laws of entries: their bytes, and when two are the same.
use Prim.Native.Nat.{ℕ, ◌+◌, ◌-◌, ◌*◌, ◌≤◌, ◌<◌}
use mathlib.Core.Path.{◌≡◌, sym, ap, ◌∙◌}
use mathlib.Core.Bool.{true, false}
use mathlib.Core.Logic.{⊎_elim}
use mathlib.Core.List.{List, []}
use native.Mathlib.Omega.{arith}
use lib.Dec.{eqb}
use lib.ListN.{length, get_or, take, drop, length-drop}
use lib.Seq.{length-take-le, get_or-take, get_or-drop, ext_get_or}
use borrow.Author.Tests.{lt-ltb, le-ltb, eq-eqb, eqb-true, not-true}
use Rattle.basics.specs.Numbers.{u32_at, u64_at}
use Rattle.basics.proofs.Order.{lt-or-ge}
use Rattle.basics.proofs.Scan.{all_of, all-each}
use Rattle.basics.proofs.Truth.{clash}
use Rattle.entries.specs.Entry.{count, entry_at, same_entry, is_empty, differs, entry_new, entries_distinct}
use Rattle.basics.specs.Nuls.{same_byte}

module _ (list : List ℕ) (i : ℕ) where
  pub entry-none : count list ≤ i → [] ≡ entry_at list i
  unfolding entry_at
  entry-none h = sym (rw (le-ltb i (count list) h))

  module _ (h : i < count list) where
    entry-is : entry_at list i ≡ take 32 (drop (i * 32) list)
    unfolding entry_at
    entry-is = rw (lt-ltb i (count list) h)

    -- as the part `&list[at..end]` is stated
    pub entry-part : take (i * 32 + 32 - i * 32) (drop (i * 32) list) ≡ entry_at list i
    entry-part = let k : i * 32 + 32 - i * 32 ≡ 32 = omega arith in ap (λ (n : ℕ). take n (drop (i * 32) list)) k ∙ sym entry-is

    pub entry_length : length (entry_at list i) ≡ 32
    entry_length = ap length entry-is ∙ length-take-le 32 (drop (i * 32) list) (rw (length-drop (i * 32) list) (omega arith))

    pub entry-byte : (j : ℕ) → j < 32 → get_or (entry_at list i) j 0 ≡ get_or list (i * 32 + j) 0
    entry-byte j l = ap (λ (e : List ℕ). get_or e j 0) entry-is ∙ get_or-take 32 (drop (i * 32) list) j 0 l ∙ get_or-drop (i * 32) list j 0

    pub entry_first : get_or (entry_at list i) 0 0 ≡ get_or list (i * 32) 0
    entry_first = let k : i * 32 + 0 ≡ i * 32 = omega arith in entry-byte 0 (omega arith) ∙ ap (λ (n : ℕ). get_or list n 0) k

    pub entry-eight : (p k : ℕ) → p + 8 ≤ 32 → i * 32 + p ≡ k → u64_at (entry_at list i) p ≡ u64_at list k
    unfolding u32_at
    entry-eight p k l e =
        let byte : (j n : ℕ) → j < 32 → i * 32 + j ≡ n → get_or (entry_at list i) j 0 ≡ get_or list n 0 =
        λ j n u q. entry-byte j u ∙ ap (λ (m : ℕ). get_or list m 0) q in
        rw
        (byte p k (omega arith) e, byte (p + 1) (k + 1) (omega arith) (omega arith), byte (p + 2) (k + 2) (omega arith) (omega arith), byte (p + 3) (k + 3) (omega arith) (omega arith), byte (p + 4) (k + 4) (omega arith) (omega arith), byte (p + 4 + 1) (k + 4 + 1) (omega arith) (omega arith), byte (p + 4 + 2) (k + 4 + 2) (omega arith) (omega arith), byte (p + 4 + 3) (k + 4 + 3) (omega arith) (omega arith))

pub entry-most : (list : List ℕ) (i : ℕ) → length (entry_at list i) ≤ 32
entry-most list i =
    ⊎_elim
    (λ (h : i < count list). omega (arith, entry_length list i h))
    (λ (h : count list ≤ i). omega (arith, ap length (entry-none list i h)))
    (lt-or-ge i (count list))

pub same_bytes : (a b : List ℕ) (j : ℕ) → same_entry a b ≡ true → j < 32 → get_or a j 0 ≡ get_or b j 0
unfolding same_entry same_byte
same_bytes a b j h l = eqb-true _ _ (all-each (same_byte a b) 32 j h l)

pub same-eight : (a b : List ℕ) (p : ℕ) → same_entry a b ≡ true → p + 8 ≤ 32 → u64_at a p ≡ u64_at b p
unfolding u32_at
same-eight a b p s l =
    let byte : (j : ℕ) → j < 32 → get_or a j 0 ≡ get_or b j 0 = λ j u. same_bytes a b j s u in
    rw
    (byte p (omega arith), byte (p + 1) (omega arith), byte (p + 2) (omega arith), byte (p + 3) (omega arith), byte (p + 4) (omega arith), byte (p + 4 + 1) (omega arith), byte (p + 4 + 2) (omega arith), byte (p + 4 + 3) (omega arith))

pub same_of : (a b : List ℕ) → ((j : ℕ) → j < 32 → get_or a j 0 ≡ get_or b j 0) → same_entry a b ≡ true
unfolding same_entry same_byte
same_of a b h = all_of (same_byte a b) 32 (λ j l. eq-eqb _ _ (h j l))

pub same-equal : (a b : List ℕ) → length a ≡ 32 → length b ≡ 32 → same_entry a b ≡ true → a ≡ b
same-equal a b la lb h = ext_get_or 0 a b (la ∙ sym lb) (λ j l. same_bytes a b j h (omega arith))

-- what `distinct` means: an entry that is not empty stands in one place only
module _ (list : List ℕ) (d : entries_distinct list ≡ true) where
  apart : (i k : ℕ) → i < count list → k < i → is_empty (entry_at list i) ≡ false → same_entry (entry_at list i) (entry_at list k) ≡ false
  unfolding entries_distinct entry_new differs
  apart i k h l e = not-true _ (all-each (differs list i) i k (rw e at (all-each (entry_new list) (count list) i d h)) l)

  pub distinct-one : (i k : ℕ) → i < count list → k < count list → is_empty (entry_at list i) ≡ false → same_entry (entry_at list i) (entry_at list k) ≡ true → i ≡ k
  distinct-one i k hi hk e s =
      ⊎_elim
      (λ (q : i < k). absurd (clash (same_of (entry_at list k) (entry_at list i) (λ j l. sym (bytes j l))) (apart k i hk q (ap (λ (x : ℕ). eqb x 0) (sym (bytes 0 (omega arith))) ∙ e))))
      (λ (q : k ≤ i). ⊎_elim (λ (p : k < i). absurd (clash s (apart i k hi p e))) (λ (p : i ≤ k). omega arith) (lt-or-ge k i))
      (lt-or-ge i k)
    where
      bytes : (j : ℕ) → j < 32 → get_or (entry_at list i) j 0 ≡ get_or (entry_at list k) j 0
      bytes j l = same_bytes (entry_at list i) (entry_at list k) j s l
