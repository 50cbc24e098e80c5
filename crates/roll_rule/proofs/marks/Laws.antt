-- Laws of marks: alike ports have the same marks, so a port whose marks are not set yet differs from all before it.
use Prim.Native.Nat.{ℕ, ◌+◌, ◌*◌, ◌/◌, ◌%◌, ◌≤◌, ◌<◌}
use mathlib.Core.Path.{◌≡◌, refl, sym, ap, ◌∙◌}
use mathlib.Core.List.{List}
use mathlib.Core.Bool.{Bool, true, false, ◌&&◌, not}
use mathlib.Core.Logic.{⊎_elim}
use lib.ListN.{length, get_or, set, length-set}
use lib.Seq.{get_or-set_same, get_or-set_other}
use lib.Dec.{eqb}
use native.Mathlib.Omega.{arith}
use borrow.Author.Tests.{eqb-true, eqb-false}
use Rattle.basics.specs.Numbers.{u32_at}
use Rattle.basics.proofs.Order.{lt-or-ge}
use Rattle.basics.proofs.Scan.{all_of}
use Rattle.basics.proofs.Truth.{false_of}
use Rattle.roll.specs.Record.{index_of, name_of}
use Rattle.roll.specs.Name.{same_name}
use Rattle.roll.proofs.name.Laws.{four_same}
use Rattle.roll_rule.specs.Rule.{another, is_new}
use Rattle.roll_rule.specs.Marks.{index_mark, name_mark, mark_of_index, mark_of_name, Marked}

pub name-mark-is : (s : List ℕ) (a b c d : ℕ) → a ≡ u32_at s 0 → b ≡ u32_at s 4 → c ≡ u32_at s 8 → d ≡ u32_at s 12
    → (a * 483130339 + b * 407823575 + c * 476453121 + d * 347328907) / 4194304 % 1024 ≡ name_mark s
unfolding name_mark
name-mark-is s a b c d ea eb ec ed = rw (ea, eb, ec, ed)

same-mark : (a b : List ℕ) → same_name a b ≡ true → name_mark a ≡ name_mark b
unfolding name_mark
same-mark a b h = rw (four_same a b 0 (omega arith) h, four_same a b 4 (omega arith) h, four_same a b 8 (omega arith) h, four_same a b 12 (omega arith) h)

-- the marks of a port as the code computes them
module _ (roll : List ℕ) (k m : ℕ) where
  pub mark-index : (x : ℕ) → x ≡ index_of roll k → m ≡ index_mark x → m ≡ mark_of_index roll k
  unfolding mark_of_index
  mark-index x ex em = em ∙ ap index_mark ex

  pub mark-name : (s : List ℕ) → s ≡ name_of roll k → m ≡ name_mark s → m ≡ mark_of_name roll k
  unfolding mark_of_name
  mark-name s es em = em ∙ ap name_mark es

-- a table with the marks of the first k ports, and one more
module _ (f : ℕ → ℕ) where
  module _ (k : ℕ) (table : List ℕ) (h : Marked f k table) where
    pub mark-room : (m : ℕ) → m < 1024 → m < length table
    mark-room m l = let r = h.room in omega arith

    pub marked_next : (m : ℕ) (new : List ℕ) → m ≡ f k → m < 1024 → new ≡ set table m 1 → Marked f (k + 1) new
    marked_next m new em lm en = record { room = ap length en ∙ length-set table m 1 ∙ h.room; set = λ j l. rw en (go j l (eqb (f j) m) refl) }
      where
        before : (j : ℕ) → j < k + 1 → (f j ≡ m → ⊥) → j < k
        before j l g =
            ⊎_elim (λ (q : j < k). q) (λ (q : k ≤ j). absurd (g (let e : j ≡ k = omega arith in ap f e ∙ sym em))) (lt-or-ge j k)

        go : (j : ℕ) → j < k + 1 → (b : Bool) → eqb (f j) m ≡ b → get_or (set table m 1) (f j) 0 ≡ 1
        go j l true g = rw (eqb-true (f j) m g) (get_or-set_same table m 1 0 (mark-room m lm))
        go j l false g = get_or-set_other table m (f j) 1 0 (eqb-false (f j) m g) ∙ h.set j (before j l (eqb-false (f j) m g))

    fresh : (m : ℕ) → m ≡ f k → get_or table m 0 ≡ 0 → (j : ℕ) → j < k → f j ≡ f k → ⊥
    fresh m em z j l e = let s : get_or table m 0 ≡ 1 = rw (em, ← e) (h.set j l) in let w : ◌≡◌ {A = ℕ} 0 1 = sym z ∙ s in omega arith

index-alike : (roll : List ℕ) (j k : ℕ) → index_of roll j ≡ index_of roll k → mark_of_index roll j ≡ mark_of_index roll k
unfolding mark_of_index
index-alike roll j k e = ap index_mark e

name-alike : (roll : List ℕ) (j k : ℕ) → same_name (name_of roll j) (name_of roll k) ≡ true → mark_of_name roll j ≡ mark_of_name roll k
unfolding mark_of_name
name-alike roll j k h = same-mark (name_of roll j) (name_of roll k) h

-- neither of a port's marks is set
pub new-fresh : (roll : List ℕ) (k i n : ℕ) (indexes names : List ℕ) → Marked (mark_of_index roll) k indexes → Marked (mark_of_name roll) k names
    → i ≡ mark_of_index roll k → n ≡ mark_of_name roll k → get_or indexes i 0 ≡ 0 → get_or names n 0 ≡ 0 → true ≡ is_new roll k
unfolding is_new another
new-fresh roll k i n indexes names hi hn ei en zi zn = sym (all_of (another roll (index_of roll k) (name_of roll k)) k (λ j l. differ j l))
  where
    differ : (j : ℕ) → j < k → not (eqb (index_of roll j) (index_of roll k)) && not (same_name (name_of roll j) (name_of roll k)) ≡ true
    differ j l =
        let a : eqb (index_of roll j) (index_of roll k) ≡ false =
        false_of (eqb (index_of roll j) (index_of roll k)) (λ h. fresh (mark_of_index roll) k indexes hi i ei zi j l (index-alike roll j k (eqb-true _ _ h))) in
        let b : same_name (name_of roll j) (name_of roll k) ≡ false =
        false_of (same_name (name_of roll j) (name_of roll k)) (λ h. fresh (mark_of_name roll) k names hn n en zn j l (name-alike roll j k h)) in
        rw (a, b)

pub ruleset mark-laws = (mark-room, marked_next)
