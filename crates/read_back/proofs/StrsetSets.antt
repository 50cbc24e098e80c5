-- Read back: a STRINGSET of a reply to STRSET_GET tells its id, its count and, unless counts alone are asked for, every entry; STRINGSETS tells each set.
use Prim.Native.Nat.{ℕ, ◌+◌, ◌≤◌, ◌<◌}
use mathlib.Core.Path.{◌≡◌, refl, sym, ap, ◌∙◌}
use mathlib.Core.Bool.{Bool, true, false, cond}
use mathlib.Core.List.{List, [], ◌∷◌, ◌++◌, append_assoc, append-nil}
use lib.ListN.{length, length-append}
use native.Mathlib.Omega.{arith}
use Rattle.basics.specs.Numbers.{le32}
use Rattle.entries.specs.Entry.{count}
use Rattle.names.specs.Rule.{names_right}
use Rattle.names.proofs.Rules.{right-means}
use Rattle.netlink_attributes.specs.Attributes.{Attributes, attributes, part_of}
use Rattle.netlink_attributes.specs.Attributes.Attributes.{done, attribute}
use Rattle.netlink.specs.Policy.{rule_of, plain, nested, judged}
use Rattle.netlink.specs.Walk.{found, absent, first_fault, last_of_type, walked, slot_number}
use Rattle.netlink.specs.declared.walk.Slot.{Slot}
use Rattle.netlink.specs.declared.walk.Stop.TheVariants.{Whole}
use Rattle.netlink_write.specs.Attributes.{attr, nest}
use Rattle.netlink_write.proofs.ReadBack.{attributes-end}
use Rattle.netlink_write.proofs.attributes.Laws.{length-nest}
use Rattle.layout.specs.Layout.{Names, list_of}
use Rattle.layout.specs.declared.Set.{Set}
use Rattle.layout.specs.declared.Set.TheVariants.{Debug, Flags}
use Rattle.strset_request.specs.Set.{id_of}
use Rattle.strset_request.specs.declared.list.Sets.{Sets}
use Rattle.strset_request.specs.declared.list.Sets.TheVariants.{Nothing, One, Both}
use Rattle.strset_reply.specs.Strings.{strings_bytes}
use Rattle.strset_reply.specs.Sets.{strings_if, set_contents, string_set, other_set, sets_bytes}
use Rattle.strset_reply.proofs.strings.Lengths.{strings-whole, strings-most}
use Rattle.strset_reply.proofs.sets.Lengths.{if-whole, if-most, length-contents}
use Rattle.bitset_reply.proofs.list.Lengths.{right-short}
use Rattle.read_back.specs.Strset.{ToldName, set_policy, name_told, nests_told, set_told, entries_below, set_owed, sets_owed}
use Rattle.read_back.specs.Strset.Told.{told}
use Rattle.read_back.proofs.Places.{up_to, nest-at, contents-at, walked_by}
use Rattle.read_back.proofs.Number.{number-rest, number_past, number_at, number-payload, number-back}
use Rattle.read_back.proofs.StrsetNests.{cut-behind, ReadAs, NestsAs, no-nest, one-nest, nests-then, nests-read}
use Rattle.read_back.proofs.StrsetNames.{strings-told}

-- ID and COUNT behind front
module _ (s front rest : List ℕ) (id n at : ℕ) (e : s ≡ front ++ (attr 1 (le32 id) ++ (attr 2 (le32 n) ++ rest))) (ea : at ≡ length front) where
  -- ID's payload
  id-is : part_of s (at + 4) (at + 8) ≡ le32 id
  id-is = number-payload s front (attr 2 (le32 n) ++ rest) 1 id at (at + 4) (at + 8) e ea refl refl

  -- ID's number
  id-back : id < 4294967296 → slot_number s (found (at + 4) (at + 8)) ≡ id
  id-back = number-back s front (attr 2 (le32 n) ++ rest) 1 id at (at + 4) (at + 8) e ea refl refl

  -- COUNT stands behind it
  count-in : s ≡ (front ++ attr 1 (le32 id)) ++ (attr 2 (le32 n) ++ rest)
  count-in = number-rest s front (attr 2 (le32 n) ++ rest) 1 id at (at + 4) (at + 8) e ea refl refl

  -- and where
  count_past : at + 8 ≡ length (front ++ attr 1 (le32 id))
  count_past = number_past s front (attr 2 (le32 n) ++ rest) 1 id at (at + 4) (at + 8) e ea refl refl

  -- COUNT's payload
  count-is : part_of s (at + 12) (at + 16) ≡ le32 n
  count-is =
      number-payload s (front ++ attr 1 (le32 id)) rest 2 n (at + 8) (at + 12) (at + 16) count-in count_past (omega arith) (omega arith)

  -- COUNT's number
  count-back : n < 4294967296 → slot_number s (found (at + 12) (at + 16)) ≡ n
  count-back =
      number-back s (front ++ attr 1 (le32 id)) rest 2 n (at + 8) (at + 12) (at + 16) count-in count_past (omega arith) (omega arith)

  -- what is behind them
  rest_in : s ≡ ((front ++ attr 1 (le32 id)) ++ attr 2 (le32 n)) ++ rest
  rest_in = number-rest s (front ++ attr 1 (le32 id)) rest 2 n (at + 8) (at + 12) (at + 16) count-in count_past (omega arith) (omega arith)

  -- and where it stands
  rest-past : at + 16 ≡ length ((front ++ attr 1 (le32 id)) ++ attr 2 (le32 n))
  rest-past = number_past s (front ++ attr 1 (le32 id)) rest 2 n (at + 8) (at + 12) (at + 16) count-in count_past (omega arith) (omega arith)

  -- netlink reads the two
  numbers-at : attributes s at ≡ attribute 1 0 (at + 4) (at + 8) (attribute 2 0 (at + 12) (at + 16) (attributes s (at + 16)))
  numbers-at =
      number_at s front (attr 2 (le32 n) ++ rest) 1 id at (at + 4) (at + 8) e ea refl refl (omega arith)
      ∙ ap (attribute 1 0 (at + 4) (at + 8))
      (number_at s (front ++ attr 1 (le32 id)) rest 2 n (at + 8) (at + 12) (at + 16) count-in count_past (omega arith) (omega arith) (omega arith))

  -- a STRINGSET by its walk, whether STRINGS stands in it or not
  set_says : (t : List ℕ) (z : ℕ) (slot : Slot) (xs : List ToldName) → part_of s 0 z ≡ t
      → walked set_policy t at
      ≡ record { stop = Whole; slots = absent ∷ found (at + 4) (at + 8) ∷ found (at + 12) (at + 16) ∷ slot ∷ absent ∷ absent ∷ absent ∷ absent ∷ [] }
      → nests_told s (name_told s) slot ≡ told xs → id < 4294967296 → n < 4294967296 → set_told s at z ≡ told (record { id = id; count = n; strings = xs })
  unfolding set_told
  set_says t z slot xs cut w strings small few = rw (cut, w, strings, id-back small, count-back few)

-- a STRINGSET of a list that is right
module _ (s names : List ℕ) (id : ℕ) (small : id < 4294967296) (right : names_right names ≡ true) where
  -- the walk of a STRINGSET without STRINGS, where it ends the list
  counts-walked : (t front : List ℕ) (at : ℕ) → t ≡ front ++ (attr 1 (le32 id) ++ (attr 2 (le32 (count names)) ++ [])) → at ≡ length front → walked set_policy t at
      ≡ record { stop = Whole; slots = absent ∷ found (at + 4) (at + 8) ∷ found (at + 12) (at + 16) ∷ absent ∷ absent ∷ absent ∷ absent ∷ absent ∷ [] }
  unfolding first_fault last_of_type judged rule_of plain
  counts-walked t front at e ea =
      let n = count names in
      let past = rest-past t front [] id n at e ea in
      let long = length-append ((front ++ attr 1 (le32 id)) ++ attr 2 (le32 n)) [] in
      let last = attributes-end t (at + 16) (omega (arith, ap length (rest_in t front [] id n at e ea))) in
      walked_by set_policy t at (attribute 1 0 (at + 4) (at + 8) (attribute 2 0 (at + 12) (at + 16) done))
      (numbers-at t front [] id n at e ea ∙ ap (λ (x : Attributes). attribute 1 0 (at + 4) (at + 8) (attribute 2 0 (at + 12) (at + 16) x)) last)
      (rw (id-is t front [] id n at e ea, count-is t front [] id n at e ea))

  -- such a STRINGSET tells its id and its count
  counts-told : ReadAs s (set_told s) (set_contents true id names) (record { id = id; count = count names; strings = [] })
  unfolding set_contents strings_if nests_told
  counts-told front rest a z e ea ez =
      let n = count names in
      let one = attr 1 (le32 id) in
      let two = attr 2 (le32 n) in
      let cut = cut-behind s front (one ++ (two ++ [])) rest z e (omega arith) in
      let stands : s ≡ front ++ (one ++ (two ++ rest)) = e ∙ simp (append_assoc, append-nil) in
      let few : n < 4294967296 = omega (arith, (right-means names right).few) in
      set_says s front rest id n a stands ea (front ++ (one ++ (two ++ []))) z absent [] cut (counts-walked (front ++ (one ++ (two ++ []))) front a refl ea) refl small few

  -- the walk of a STRINGSET with STRINGS, where it ends the list
  entries-walked : (t front : List ℕ) (at : ℕ) → t ≡ front ++ (attr 1 (le32 id) ++ (attr 2 (le32 (count names)) ++ nest 3 (strings_bytes names (count names)))) → at ≡ length front
      → walked set_policy t at
      ≡ record { stop = Whole; slots = absent ∷ found (at + 4) (at + 8) ∷ found (at + 12) (at + 16) ∷ found (at + 20) (at + 20 + length (strings_bytes names (count names))) ∷ absent ∷ absent ∷ absent ∷ absent ∷ [] }
  unfolding first_fault last_of_type judged rule_of plain nested
  entries-walked t front at e ea =
      let n = count names in
      let strings = strings_bytes names n in
      let pre = (front ++ attr 1 (le32 id)) ++ attr 2 (le32 n) in
      let past = rest-past t front (nest 3 strings) id n at e ea in
      let behind = rest_in t front (nest 3 strings) id n at e ea in
      let stands : t ≡ pre ++ (nest 3 strings ++ []) = behind ∙ ap (λ (l : List ℕ). pre ++ l) (sym (append-nil (nest 3 strings))) in
      let end = at + 20 + length strings in
      let ends : length t ≡ end = ap length behind ∙ omega (arith, length-append pre (nest 3 strings), length-nest 3 strings) in
      let few : n ≤ 512 = (right-means names right).few in
      let here = nest-at t pre [] strings 3 (at + 16) stands past (at + 20) end end
      (omega arith) (omega (arith, strings-most names n)) (strings-whole names n) (omega arith) (omega arith) (omega (arith, length-nest 3 strings)) in
      let last = attributes-end t end (omega arith) in
      walked_by set_policy t at (attribute 1 0 (at + 4) (at + 8) (attribute 2 0 (at + 12) (at + 16) (attribute 3 2 (at + 20) end done)))
      (numbers-at t front (nest 3 strings) id n at e ea
      ∙ ap (λ (x : Attributes). attribute 1 0 (at + 4) (at + 8) (attribute 2 0 (at + 12) (at + 16) x)) (here ∙ ap (attribute 3 2 (at + 20) end) last))
      (rw (id-is t front (nest 3 strings) id n at e ea, count-is t front (nest 3 strings) id n at e ea))

  -- such a STRINGSET tells every entry too
  entries-told : ReadAs s (set_told s) (set_contents false id names) (record { id = id; count = count names; strings = entries_below names (count names) })
  unfolding set_contents strings_if nest
  entries-told front rest a z e ea ez =
      let n = count names in
      let strings = strings_bytes names n in
      let one = attr 1 (le32 id) in
      let two = attr 2 (le32 n) in
      let pre = (front ++ one) ++ two in
      let contents = one ++ (two ++ nest 3 strings) in
      let cut = cut-behind s front contents rest z e (omega arith) in
      let stands : s ≡ front ++ (one ++ (two ++ (nest 3 strings ++ rest))) = e ∙ simp append_assoc in
      let behind : s ≡ pre ++ (nest 3 strings ++ rest) = rest_in s front (nest 3 strings ++ rest) id n a stands ea in
      let past = rest-past s front (nest 3 strings ++ rest) id n a stands ea in
      let few : n ≤ 512 = (right-means names right).few in
      let opened : s ≡ up_to pre 3 strings ++ (strings ++ rest) = behind ∙ simp append_assoc in
      let place = contents-at s pre rest strings 3 (a + 16) behind past (a + 20) (omega arith) in
      let read = nests-read s (name_told s) strings (entries_below names n) (strings-told s names n (omega arith) (right-short names right))
      (up_to pre 3 strings) rest (a + 20) (a + 20 + length strings) opened place refl in
      set_says s front (nest 3 strings ++ rest) id n a stands ea (front ++ contents) z (found (a + 20) (a + 20 + length strings)) (entries_below names n)
      cut (entries-walked (front ++ contents) front a refl ea) read small (omega arith)

  -- a STRINGSET of either kind
  pub contents-told : (counts : Bool)
      → ReadAs s (set_told s) (set_contents counts id names) (record { id = id; count = count names; strings = cond counts [] (entries_below names (count names)) })
  contents-told true = counts-told
  contents-told false = entries-told

-- the sets whose names are right
module _ (s : List ℕ) (counts : Bool) (names : Names) (debug : names_right names.debug ≡ true) (flags : names_right names.flags ≡ true) where
  -- the names of either set are right
  list_right : (set : Set) → names_right (list_of names set) ≡ true
  unfolding list_of
  list_right Debug = debug
  list_right Flags = flags

  -- an id fits in 32 bits
  id-small : (set : Set) → id_of set < 4294967296
  unfolding id_of
  id-small Debug = omega arith
  id-small Flags = omega arith

  -- one STRINGSET
  set_told_lem : (set : Set) → NestsAs s (set_told s) (string_set counts names set) (set_owed counts names set ∷ [])
  unfolding string_set set_owed
  set_told_lem set =
      let list = list_of names set in
      let long = length-contents list counts (id_of set) in
      one-nest s (set_told s) (set_contents counts (id_of set) list) (set_owed counts names set)
      (omega (arith, if-most list counts (right-means list (list_right set)).few))
      (omega (arith, if-whole list counts))
      (contents-told s list (id_of set) (id-small set) (list_right set) counts)

  -- those that are asked for
  pub sets-told : (sets : Sets) → NestsAs s (set_told s) (sets_bytes counts names sets) (sets_owed counts names sets)
  unfolding sets_bytes sets_owed
  sets-told Nothing = no-nest s (set_told s)
  sets-told (One set) = set_told_lem set
  sets-told (Both first) =
      nests-then s (set_told s) (string_set counts names first) (string_set counts names (other_set first)) (set_owed counts names first ∷ []) (set_owed counts names (other_set first) ∷ [])
      (set_told_lem first) (set_told_lem (other_set first))
