-- Read back: nests of type 1, one behind the other, wherever they stand in a reply to STRSET_GET, are whole, and each is read.
use Prim.Native.Nat.{ℕ, ◌+◌, ◌%◌, ◌≤◌}
use mathlib.Core.Path.{◌≡◌, refl, sym, ap, ◌∙◌}
use mathlib.Core.List.{List, [], ◌∷◌, ◌++◌, append_assoc, append-nil}
use lib.ListN.{length, length-append}
use native.Mathlib.Omega.{arith}
use Rattle.netlink_attributes.specs.Attributes.{attributes, part_of}
use Rattle.netlink.specs.Policy.{rule_of, nested, judged}
use Rattle.netlink.specs.Walk.{found, first_fault}
use Rattle.netlink.specs.declared.walk.Stop.TheVariants.{Whole}
use Rattle.netlink.proofs.walk.Meaning.{stop_is}
use Rattle.netlink_write.specs.Attributes.{nest}
use Rattle.netlink_write.proofs.ReadBack.{part-back, attributes-end}
use Rattle.read_back.specs.Strset.{Told, each_told, nests_policy, nests_told}
use Rattle.read_back.specs.Strset.Told.{told}
use Rattle.read_back.proofs.Places.{up_to, nest-at, contents-at}

-- a list cut where the bytes behind pre end
pub cut-behind : (s pre bytes post : List ℕ) (z : ℕ) → s ≡ pre ++ (bytes ++ post) → z ≡ length pre + length bytes → part_of s 0 z ≡ pre ++ bytes
cut-behind s pre bytes post z e q =
    let same : s ≡ (pre ++ bytes) ++ post = e ∙ sym (append_assoc pre bytes post) in
    ap (λ (l : List ℕ). part_of l 0 z) same
    ∙ part-back [] (pre ++ bytes) post 0 z refl (omega (arith, length-append pre bytes))

module _ {A : Type 0} (s : List ℕ) (read : ℕ → ℕ → Told A) where
  -- these bytes, wherever they stand in s, are read as x
  abbrev pub ReadAs : List ℕ → A → Type 0
  ReadAs bytes x = (front rest : List ℕ) (a z : ℕ) → s ≡ front ++ (bytes ++ rest) → a ≡ length front → z ≡ a + length bytes → read a z ≡ told x

  -- the nests of t from a place on are whole, and are read as xs
  abbrev pub ReadFrom : List ℕ → ℕ → List A → Type 0
  ReadFrom t at xs = (first_fault nests_policy t (attributes t at) ≡ Whole) × (each_told read (attributes t at) ≡ told xs)

  -- these bytes are nests that are read as xs before what is read behind them, in every list t with which s begins
  abbrev pub NestsAs : List ℕ → List A → Type 0
  NestsAs bytes xs =
      (t pre rest post : List ℕ) (ys : List A) → s ≡ t ++ post → t ≡ pre ++ (bytes ++ rest) → ReadFrom t (length pre + length bytes) ys
      → ReadFrom t (length pre) (xs ++ ys)

  -- no nest
  pub no-nest : NestsAs [] []
  no-nest t pre rest post ys es e r = let z : length pre + 0 ≡ length pre = omega arith in rw z at r

  -- one nest
  pub one-nest : (c : List ℕ) (x : A) → length c ≤ 65531 → length c % 4 ≡ 0 → ReadAs c x → NestsAs (nest 1 c) (x ∷ [])
  unfolding each_told first_fault judged rule_of nested nest
  one-nest c x most whole reads t pre rest post ys es e r =
      let at = length pre in
      let z = at + 4 + length c in
      let here = nest-at t pre rest c 1 at e refl (at + 4) z _ (omega arith) most whole refl refl refl in
      let stands : s ≡ up_to pre 1 c ++ (c ++ (rest ++ post)) = es ∙ ap (λ (l : List ℕ). l ++ post) e ∙ simp append_assoc in
      let says = reads (up_to pre 1 c) (rest ++ post) (at + 4) z stands (contents-at t pre rest c 1 at e refl (at + 4) refl) refl in (
        ap (first_fault nests_policy t) here ∙ r.0,
        ap (each_told read) here ∙ rw (says, r.1),
      )

  -- nests, then nests
  pub nests-then : (one two : List ℕ) (xs ys : List A) → NestsAs one xs → NestsAs two ys → NestsAs (one ++ two) (xs ++ ys)
  nests-then one two xs ys a b t pre rest post zs es e r =
      let first : t ≡ pre ++ (one ++ (two ++ rest)) = e ∙ ap (λ (l : List ℕ). pre ++ l) (append_assoc one two rest) in
      let second : t ≡ (pre ++ one) ++ (two ++ rest) = first ∙ sym (append_assoc pre one (two ++ rest)) in
      let past : length pre + length (one ++ two) ≡ length (pre ++ one) + length two = omega (arith, length-append pre one, length-append one two) in
      let r2 = b t (pre ++ one) rest post zs es second (rw past at r) in
      rw (append_assoc xs ys zs) (a t pre (two ++ rest) post (ys ++ zs) es first (rw (length-append pre one) at r2))

  -- the slot of a nest of such bytes
  pub nests-read : (bytes : List ℕ) (xs : List A) → NestsAs bytes xs → (pre post : List ℕ) (a z : ℕ) → s ≡ pre ++ (bytes ++ post) → a ≡ length pre
      → z ≡ a + length bytes → nests_told s read (found a z) ≡ told xs
  unfolding nests_told each_told first_fault
  nests-read bytes xs nests pre post a z e ea ez =
      let t = pre ++ bytes in
      let cut : part_of s 0 z ≡ t = cut-behind s pre bytes post z e (omega arith) in
      let past : length t ≤ length pre + length bytes = omega (arith, length-append pre bytes) in
      let end : ReadFrom t (length pre + length bytes) [] = rw (attributes-end t (length pre + length bytes) past) (refl, refl) in
      let r = nests t pre [] post [] (e ∙ sym (append_assoc pre bytes post)) (ap (λ (l : List ℕ). pre ++ l) (sym (append-nil bytes))) end in
      rw (cut, ea, stop_is nests_policy t (length pre), r.0, r.1, append-nil xs)
