-- Read back: the BITs of a list, wherever they stand, are whole, and say the listed bits.
use Prim.Native.Nat.{ℕ, zero, suc, ◌+◌, ◌≤◌, ◌<◌}
use mathlib.Core.Path.{◌≡◌, refl, sym, ap, ◌∙◌}
use mathlib.Core.Bool.{Bool, true, false, cond}
use mathlib.Core.List.{List, [], ◌∷◌, ◌++◌, append_assoc, append-nil}
use mathlib.Core.Logic.{⊎_elim}
use lib.ListN.{length, length-append}
use native.Mathlib.Omega.{arith}
use borrow.Author.Tests.{eq-eqb, ne_eqb}
use Rattle.basics.proofs.Order.{lt-or-ge}
use Rattle.bits.specs.Change.{Below, Listed, list_mask}
use Rattle.entries.specs.Entry.{count, entry_at}
use Rattle.names.specs.Rule.{names_right}
use Rattle.netlink_attributes.specs.Attributes.{attributes, part_of}
use Rattle.netlink.specs.Policy.{nul_at, rule_of, nested, judged}
use Rattle.netlink.specs.Walk.{first_fault}
use Rattle.netlink.specs.declared.walk.Stop.TheVariants.{Whole}
use Rattle.index_name.specs.IndexName.{index_and_name, index_nest}
use Rattle.netlink_write.proofs.ReadBack.{attributes-end}
use Rattle.bitset_form.specs.Policies.{bits_policy}
use Rattle.bitset_list.specs.BitList.{bits_reading}
use Rattle.bitset_list.specs.BitList.ListReading.{list_entries}
use Rattle.bitset_reply.specs.List.{bit_in, bits_bytes}
use Rattle.index_name.proofs.Laws.{index-name-whole, index-name-most}
use Rattle.bitset_reply.proofs.list.Lengths.{Short}
use Rattle.read_back.proofs.Places.{up_to, nest-at, contents-at, cut_at}
use Rattle.read_back.proofs.Bit.{bit-back}

-- what the BITs of the listed ones of the m bits from k on say
module _ (listed : ℕ → Bool) where
  unfoldable pub listed_from : ℕ → ℕ → List Listed
  listed_from k zero = []
  listed_from k (suc m) = cond (listed k) (record { bit = k; on = false } ∷ listed_from (suc k) m) (listed_from (suc k) m)

  -- the bits that they name
  mask-other : (m k i : ℕ) → (i ≡ k → ⊥) → list_mask (listed_from k (suc m)) i ≡ list_mask (listed_from (suc k) m) i
  unfolding listed_from list_mask
  mask-other m k i n = go (listed k)
    where
      go : (t : Bool) → list_mask (cond t (record { bit = k; on = false } ∷ listed_from (suc k) m) (listed_from (suc k) m)) i ≡ list_mask (listed_from (suc k) m) i
      go true = rw (ne_eqb i k n)
      go false = refl

  mask-here : (m k i : ℕ) → i ≡ k → list_mask (listed_from (suc k) m) i ≡ false → list_mask (listed_from k (suc m)) i ≡ listed k
  unfolding listed_from list_mask
  mask-here m k i e h = go (listed k)
    where
      go : (t : Bool) → list_mask (cond t (record { bit = k; on = false } ∷ listed_from (suc k) m) (listed_from (suc k) m)) i ≡ t
      go true = rw (eq-eqb i k e)
      go false = h

  mask-before : (m k i : ℕ) → i < k → list_mask (listed_from k m) i ≡ false
  unfolding listed_from list_mask
  mask-before zero k i l = refl
  mask-before (suc m) k i l = mask-other m k i (λ q. omega arith) ∙ mask-before m (suc k) i (omega arith)

  mask-past : (m k i : ℕ) → k + m ≤ i → list_mask (listed_from k m) i ≡ false
  unfolding listed_from list_mask
  mask-past zero k i l = refl
  mask-past (suc m) k i l = mask-other m k i (λ q. omega arith) ∙ mask-past m (suc k) i (omega arith)

  mask-in : (m k i : ℕ) → k ≤ i → i < k + m → list_mask (listed_from k m) i ≡ listed i
  mask-in zero k i l u = absurd (omega arith)
  mask-in (suc m) k i l u =
      ⊎_elim
      (λ (q : k < i). mask-other m k i (λ p. omega arith) ∙ mask-in m (suc k) i (omega arith) (omega arith))
      (λ (q : i ≤ k). let p : i ≡ k = omega arith in mask-here m k i p (mask-before m (suc k) i (omega arith)) ∙ ap listed (sym p))
      (lt-or-ge k i)

  -- the list of all bits below n names those that are listed
  pub mask-back : (n i : ℕ) → Below n listed → list_mask (listed_from 0 n) i ≡ listed i
  mask-back n i b =
      ⊎_elim
      (λ (l : i < n). mask-in n 0 i (omega arith) (omega arith))
      (λ (l : n ≤ i). mask-past n 0 i (omega arith) ∙ sym (b i l))
      (lt-or-ge i n)

module _ (names : List ℕ) (listed : ℕ → Bool) where
  -- these BITs, in the order in which they are read
  bits_from : ℕ → ℕ → List ℕ
  bits_from k zero = []
  bits_from k (suc m) = bit_in names listed k ++ bits_from (suc k) m

  from_back : (k m : ℕ) → bits_bytes names listed (k + m) ≡ bits_bytes names listed k ++ bits_from k m
  unfolding bits_bytes bits_from
  from_back k zero = let z : k + 0 ≡ k = omega arith in rw (z, append-nil (bits_bytes names listed k))
  from_back k (suc m) =
      let z : k + suc m ≡ suc k + m = omega arith in
      ap (bits_bytes names listed) z ∙ from_back (suc k) m ∙ append_assoc (bits_bytes names listed k) (bit_in names listed k) (bits_from (suc k) m)

  all_from : (n : ℕ) → bits_bytes names listed n ≡ bits_from 0 n
  unfolding bits_bytes
  all_from n = let z : 0 + n ≡ n = omega arith in ap (bits_bytes names listed) (sym z) ∙ from_back 0 n

  -- they are whole, and each is read
  module _ (s : List ℕ) (right : names_right names ≡ true) (few : count names ≤ 512) where
    Read : ℕ → List Listed → Type 0
    Read at es = (first_fault bits_policy s (attributes s at) ≡ Whole) × (bits_reading s names (attributes s at) ≡ list_entries es)

    read_one : (pre rest : List ℕ) (es : List Listed) (k at : ℕ) → s ≡ pre ++ (index_nest 1 k (entry_at names k) ++ rest) → at ≡ length pre → k < count names
        → nul_at (entry_at names k) < 32 → Read (at + length (index_nest 1 k (entry_at names k))) es → Read at (record { bit = k; on = false } ∷ es)
    unfolding Read index_nest first_fault judged rule_of nested bits_reading
    read_one pre rest es k at e ea l short r =
        let c = index_and_name k (entry_at names k) in
        let most = index-name-most k (entry_at names k) in
        let z = at + 4 + length c in
        let here = nest-at s pre rest c 1 at e ea (at + 4) z _ (omega arith) (omega arith) (index-name-whole k (entry_at names k)) refl refl refl in
        let says = bit-back (part_of s 0 z) (up_to pre 1 c) names right k (at + 4) (contents-at s pre rest c 1 at e ea (at + 4) refl) (omega arith) l short
        (cut_at s pre rest c 1 at e ea z refl) in (
          ap (first_fault bits_policy s) here ∙ r.0,
          ap (bits_reading s names) here ∙ rw (says, r.1),
        )

    read-from : (m k : ℕ) (pre : List ℕ) (at : ℕ) → s ≡ pre ++ bits_from k m → at ≡ length pre → k + m ≤ count names → Short names (k + m)
        → Read at (listed_from listed k m)
    unfolding Read bits_from bit_in listed_from first_fault bits_reading
    read-from zero k pre at e ea l h =
        let end : length s ≤ at = omega (arith, ap length e, length-append pre []) in
        rw (attributes-end s at end) (refl, refl)
    read-from (suc m) k pre at e ea l h =
        go (listed k) e (λ front x q p. read-from m (suc k) front x q p (omega arith) (λ i u. h i (omega arith)))
      where
        go : (t : Bool) → s ≡ pre ++ (cond t (index_nest 1 k (entry_at names k)) [] ++ bits_from (suc k) m)
            → ((front : List ℕ) (x : ℕ) → s ≡ front ++ bits_from (suc k) m → x ≡ length front → Read x (listed_from listed (suc k) m))
            → Read at (cond t (record { bit = k; on = false } ∷ listed_from listed (suc k) m) (listed_from listed (suc k) m))
        go true q rest =
            let one = index_nest 1 k (entry_at names k) in
            read_one pre (bits_from (suc k) m) (listed_from listed (suc k) m) k at q ea (omega arith) (h k (omega arith))
            (rest (pre ++ one) (at + length one) (q ∙ sym (append_assoc pre one (bits_from (suc k) m))) (omega (arith, length-append pre one)))
        go false q rest = rest pre at q ea

    pub list_back : (pre : List ℕ) (n at : ℕ) → s ≡ pre ++ bits_bytes names listed n → at ≡ length pre → n ≤ count names → Short names n
        → (first_fault bits_policy s (attributes s at) ≡ Whole) × (bits_reading s names (attributes s at) ≡ list_entries (listed_from listed 0 n))
    unfolding Read
    list_back pre n at e ea l h =
        read-from n 0 pre at (e ∙ ap (λ (x : List ℕ). pre ++ x) (all_from n)) ea (omega arith) (λ i u. h i (omega arith))
