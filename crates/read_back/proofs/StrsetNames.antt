-- Read back: the nest of a STRING or a port in a reply to STRSET_GET tells its number and its name; STRINGS tells every entry in order.
use Prim.Native.Nat.{ℕ, zero, suc, ◌+◌, ◌≤◌, ◌<◌}
use mathlib.Core.Path.{◌≡◌, refl, sym, ap, ◌∙◌}
use mathlib.Core.List.{List, [], ◌∷◌, ◌++◌, append_assoc, append-nil}
use lib.ListN.{length, length-append}
use native.Mathlib.Omega.{arith}
use Rattle.basics.specs.Numbers.{le32}
use Rattle.entries.specs.Entry.{entry_at}
use Rattle.netlink_attributes.specs.Attributes.{Attributes, attributes, part_of}
use Rattle.netlink_attributes.specs.Attributes.Attributes.{done, attribute}
use Rattle.netlink.specs.Policy.{nul_at, rule_of, plain, judged}
use Rattle.netlink.specs.Walk.{found, absent, first_fault, last_of_type, walked, slot_number}
use Rattle.netlink.specs.declared.walk.Stop.TheVariants.{Whole}
use Rattle.netlink_write.specs.Attributes.{attr, nest, name_bytes}
use Rattle.netlink_write.proofs.ReadBack.{attributes-end, name_back}
use Rattle.netlink_write.proofs.attributes.Laws.{length-name_bytes}
use Rattle.netlink_write.proofs.exact_name.Laws.{length-name-attr}
use Rattle.strset_reply.specs.Strings.{index_and_value, string_bytes, strings_bytes}
use Rattle.strset_reply.proofs.strings.Lengths.{length-value}
use Rattle.bitset_reply.proofs.list.Lengths.{Short}
use Rattle.read_back.specs.Strset.{name_policy, bytes_before, name_told, entries_below}
use Rattle.read_back.proofs.Places.{payload-at, attribute-at, walked_by}
use Rattle.read_back.proofs.Number.{number-rest, number_past, number_at, number-payload, number-back}
use Rattle.read_back.proofs.StrsetNests.{cut-behind, ReadAs, NestsAs, no-nest, one-nest, nests-then}

-- the bytes of a name as it is written, before its NUL
pub before_back : (name : List ℕ) → bytes_before (name_bytes name) ≡ bytes_before name
unfolding bytes_before name_bytes nul_at
before_back [] = refl
before_back (zero ∷ s) = refl
before_back (suc b ∷ s) = ap (λ (l : List ℕ). suc b ∷ l) (before_back s)

-- INDEX and VALUE behind front
module _ (s front post name : List ℕ) (i at : ℕ) (e : s ≡ front ++ (index_and_value i name ++ post)) (ea : at ≡ length front) where
  -- INDEX stands first
  index_in : s ≡ front ++ (attr 1 (le32 i) ++ (attr 2 (name_bytes name) ++ post))
  unfolding index_and_value
  index_in = e ∙ ap (λ (l : List ℕ). front ++ l) (append_assoc (attr 1 (le32 i)) (attr 2 (name_bytes name)) post)

  -- INDEX's payload
  index_is : part_of s (at + 4) (at + 8) ≡ le32 i
  index_is = number-payload s front (attr 2 (name_bytes name) ++ post) 1 i at (at + 4) (at + 8) index_in ea refl refl

  -- INDEX's number
  index_back : i < 4294967296 → slot_number s (found (at + 4) (at + 8)) ≡ i
  index_back = number-back s front (attr 2 (name_bytes name) ++ post) 1 i at (at + 4) (at + 8) index_in ea refl refl

  -- VALUE stands behind it
  value_in : s ≡ (front ++ attr 1 (le32 i)) ++ (attr 2 (name_bytes name) ++ post)
  value_in = number-rest s front (attr 2 (name_bytes name) ++ post) 1 i at (at + 4) (at + 8) index_in ea refl refl

  -- and where
  value-past : at + 8 ≡ length (front ++ attr 1 (le32 i))
  value-past = number_past s front (attr 2 (name_bytes name) ++ post) 1 i at (at + 4) (at + 8) index_in ea refl refl

  -- VALUE's payload
  value-is : part_of s (at + 12) (at + 12 + length (name_bytes name)) ≡ name_bytes name
  value-is =
      payload-at s (front ++ attr 1 (le32 i)) post (name_bytes name) 2 (at + 8) value_in value-past (at + 12) (at + 12 + length (name_bytes name))
      (omega arith) (omega arith)

  -- netlink reads the two
  two_at : nul_at name < 32 → attributes s at
      ≡ attribute 1 0 (at + 4) (at + 8) (attribute 2 0 (at + 12) (at + 12 + length (name_bytes name)) (attributes s (at + length (index_and_value i name))))
  two_at short =
      let end = at + 12 + length (name_bytes name) in
      let long = length-name_bytes name in
      number_at s front (attr 2 (name_bytes name) ++ post) 1 i at (at + 4) (at + 8) index_in ea refl refl (omega arith)
      ∙ ap (attribute 1 0 (at + 4) (at + 8))
      (attribute-at s (front ++ attr 1 (le32 i)) post (name_bytes name) 2 (at + 8) value_in value-past (at + 12) end (at + length (index_and_value i name))
      (omega arith) (omega arith) (omega arith) (omega arith) (omega (arith, length-value i name, length-name-attr 2 name)))

-- the walk of the two, where they end the list
pair-walked : (t front name : List ℕ) (i at : ℕ) → t ≡ front ++ index_and_value i name → at ≡ length front → nul_at name < 32 → walked name_policy t at
    ≡ record { stop = Whole; slots = absent ∷ found (at + 4) (at + 8) ∷ found (at + 12) (at + 12 + length (name_bytes name)) ∷ absent ∷ absent ∷ absent ∷ absent ∷ absent ∷ [] }
unfolding first_fault last_of_type judged rule_of plain
pair-walked t front name i at e ea short =
    let stands : t ≡ front ++ (index_and_value i name ++ []) = e ∙ ap (λ (l : List ℕ). front ++ l) (sym (append-nil (index_and_value i name))) in
    let end = at + 12 + length (name_bytes name) in
    let past = at + length (index_and_value i name) in
    let last = attributes-end t past (omega (arith, ap length e, length-append front (index_and_value i name))) in
    walked_by name_policy t at (attribute 1 0 (at + 4) (at + 8) (attribute 2 0 (at + 12) end done))
    (two_at t front [] name i at stands ea short ∙ ap (λ (x : Attributes). attribute 1 0 (at + 4) (at + 8) (attribute 2 0 (at + 12) end x)) last)
    (rw (index_is t front [] name i at stands ea, value-is t front [] name i at stands ea, name_back name 32 short))

-- a nest of the two tells them
pub name-told : (s name : List ℕ) (i : ℕ) → i < 4294967296 → nul_at name < 32
    → ReadAs s (name_told s) (index_and_value i name) (record { index = i; name = bytes_before name })
unfolding name_told
name-told s name i few short front rest a z e ea ez =
    let cut = cut-behind s front (index_and_value i name) rest z e (omega arith) in
    rw (pair-walked (part_of s 0 z) front name i a cut ea short, index_back s front rest name i a e ea few, value-is s front rest name i a e ea, before_back name)

-- the STRINGs below n tell the entries below n
pub strings-told : (s names : List ℕ) (n : ℕ) → n ≤ 4294967296 → Short names n → NestsAs s (name_told s) (strings_bytes names n) (entries_below names n)
unfolding strings_bytes string_bytes entries_below
strings-told s names zero few short = no-nest s (name_told s)
strings-told s names (suc n) few short =
    let entry = entry_at names n in
    let l = short n (omega arith) in
    let long = length-value n entry in
    nests-then s (name_told s) (strings_bytes names n) (nest 1 (index_and_value n entry)) (entries_below names n) (record { index = n; name = bytes_before entry } ∷ [])
    (strings-told s names n (omega arith) (λ i u. short i (omega arith)))
    (one-nest s (name_told s) (index_and_value n entry) (record { index = n; name = bytes_before entry }) (omega arith) (omega arith) (name-told s entry n (omega arith) l))
