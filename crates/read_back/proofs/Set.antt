-- Read back: the contents of a set, wherever they stand, are accepted as a bitset that makes this set of every starting set.
use Prim.Native.Nat.{ℕ, ◌+◌, ◌*◌, ◌-◌, ◌/◌, ◌≤◌, ◌<◌}
use mathlib.Core.Path.{◌≡◌, refl, sym, ap, ◌∙◌}
use mathlib.Core.Bool.{Bool, true, false, ◌&&◌}
use mathlib.Core.Logic.{⊎_elim}
use mathlib.Core.List.{List, [], ◌∷◌, ◌++◌, append_assoc, append-nil}
use lib.ListN.{length, length-append}
use native.Mathlib.Omega.{arith}
use borrow.Author.Tests.{lt-ltb, le-ltb, lt-leb}
use Rattle.basics.specs.Numbers.{le32, u32_at}
use Rattle.basics.proofs.Numbers.{u32-le32}
use Rattle.basics.proofs.Order.{lt-or-ge}
use Rattle.basics.proofs.Scan.{any_none}
use Rattle.bits.specs.Set.{has, words_for, past, some_past}
use Rattle.word_bytes.specs.Bytes.{words_in, bytes_of}
use Rattle.bits.specs.Change.{Below}
use Rattle.word_bytes.proofs.WordBytes.{length-bytes_of, has-again}
use Rattle.entries.specs.Entry.{count}
use Rattle.names.specs.Rule.{names_right}
use Rattle.names.proofs.Rules.{right-means}
use Rattle.netlink_attributes.specs.Attributes.{Attributes, attributes, part_of}
use Rattle.netlink_attributes.specs.Attributes.Attributes.{done, attribute}
use Rattle.netlink.specs.Policy.{rule_of, plain, nested, judged}
use Rattle.netlink.specs.Walk.{found, absent, first_fault, last_of_type, walked, slot_number}
use Rattle.netlink.specs.declared.walk.Stop.TheVariants.{Whole}
use Rattle.netlink.specs.declared.walk.Walked.{Walked}
use Rattle.netlink_write.specs.Attributes.{attr, nest}
use Rattle.netlink_write.proofs.ReadBack.{attributes-end}
use Rattle.netlink.proofs.walk.Meaning.{stop_is}
use Rattle.netlink_write.proofs.attributes.Laws.{length-attr, length-nest}
use Rattle.bitset_form.specs.Policies.{bitset_policy, bits_policy}
use Rattle.bitset_form.specs.Parts.{bitset_parts}
use Rattle.bitset_form.specs.Bitset.{effect}
use Rattle.bitset_form.specs.Bitset.Bitset.{nomask_bitmap, nomask_list}
use Rattle.bitset_form.specs.Bitset.Reading.{refused, accepted}
use Rattle.bitset_compact.specs.Compact.{nomask_reading, compact_reading}
use Rattle.refusal.specs.Refusal.{on_walk}
use Rattle.bitset_list.specs.BitList.{list_reading}
use Rattle.bitset.specs.Judge.{mixed_at, bitset_parts_reading, bitset_reading}
use Rattle.bitset_reply.specs.List.{bits_bytes}
use Rattle.bitset_reply.specs.Set.{opening_bytes, compact_bytes, verbose_bytes, contents_bytes}
use Rattle.read_back.specs.Claims.{ReadsBack}
use Rattle.bitset_reply.proofs.list.Lengths.{Short, right-short, bits-whole, bits_most}
use Rattle.read_back.proofs.List.{listed_from, mask-back, list_back}
use Rattle.bitset_reply.proofs.set.Lengths.{length-opening}
use Rattle.read_back.proofs.Places.{part-all, payload-at, attribute-at, up_to, nest-at, contents-at, cut_at, walked_by}

-- no bit of n or more is below n
none_between : (f : ℕ → Bool) (n : ℕ) → some_past f n n ≡ false
unfolding some_past past
none_between f n = any_none _ n (λ i l. ap (λ (t : Bool). t && f i) (lt-leb n i l))

module _ (s pre post names : List ℕ) (n at : ℕ) (e : s ≡ pre ++ (opening_bytes n ++ post)) (ea : at ≡ length pre) (few : n ≤ 512) (en : count names ≡ n) where
  -- the opening: NOMASK and SIZE
  flag-in : s ≡ pre ++ (attr 1 [] ++ (attr 2 (le32 n) ++ post))
  unfolding opening_bytes
  flag-in = e ∙ ap (λ (l : List ℕ). pre ++ l) (append_assoc (attr 1 []) (attr 2 (le32 n)) post)

  size_in : s ≡ (pre ++ attr 1 []) ++ (attr 2 (le32 n) ++ post)
  size_in = flag-in ∙ sym (append_assoc pre (attr 1 []) (attr 2 (le32 n) ++ post))

  post_in : s ≡ (pre ++ opening_bytes n) ++ post
  post_in = e ∙ sym (append_assoc pre (opening_bytes n) post)

  past-flag : at + 4 ≡ length (pre ++ attr 1 [])
  past-flag = omega (arith, length-append pre (attr 1 []), length-attr 1 [])

  past-size : at + 12 ≡ length (pre ++ opening_bytes n)
  past-size = omega (arith, length-append pre (opening_bytes n), length-opening n)

  nomask-back : part_of s (at + 4) (at + 4) ≡ []
  nomask-back = payload-at s pre (attr 2 (le32 n) ++ post) [] 1 at flag-in ea (at + 4) (at + 4) refl (omega arith)

  size_back : part_of s (at + 8) (at + 12) ≡ le32 n
  size_back = payload-at s (pre ++ attr 1 []) post (le32 n) 2 (at + 4) size_in past-flag (at + 8) (at + 12) (omega arith) (omega arith)

  number-back : slot_number s (found (at + 8) (at + 12)) ≡ n
  unfolding slot_number
  number-back = ap (λ (l : List ℕ). u32_at l 0) size_back ∙ u32-le32 n [] (omega arith)

  opened : Attributes → Attributes
  opened xs = attribute 1 0 (at + 4) (at + 4) (attribute 2 0 (at + 8) (at + 12) xs)

  opening-back : attributes s at ≡ opened (attributes s (at + 12))
  unfolding opened
  opening-back =
      attribute-at s pre (attr 2 (le32 n) ++ post) [] 1 at flag-in ea (at + 4) (at + 4) (at + 4)
      (omega arith) (omega arith) refl (omega arith) (omega (arith, length-attr 1 []))
      ∙ ap (attribute 1 0 (at + 4) (at + 4))
      (attribute-at s (pre ++ attr 1 []) post (le32 n) 2 (at + 4) size_in past-flag (at + 8) (at + 12) (at + 12)
      (omega arith) (omega arith) (omega arith) (omega arith) (omega (arith, length-attr 2 (le32 n))))

  -- a bitset by its walk
  by-walk : (w : Walked) → walked bitset_policy s at ≡ w → bitset_reading s at names
      ≡ on_walk w refused (λ slots. bitset_parts_reading s (at - 4) names (bitset_parts slots))
  unfolding bitset_reading
  by-walk w h = rw h

  -- compact: VALUE is behind it
  module _ (words : List ℕ) (ep : post ≡ attr 4 (bytes_of words) ++ []) (ew : length words ≡ words_for n) where
    value_in : s ≡ (pre ++ opening_bytes n) ++ (attr 4 (bytes_of words) ++ [])
    value_in = post_in ∙ ap (λ (l : List ℕ). (pre ++ opening_bytes n) ++ l) ep

    value-end : length s ≡ at + 16 + length words * 4
    value-end =
        ap length value_in
        ∙ omega (arith, length-append (pre ++ opening_bytes n) (attr 4 (bytes_of words) ++ []), length-append (attr 4 (bytes_of words)) [], length-attr 4 (bytes_of words), length-bytes_of words, past-size)

    value-back : part_of s (at + 16) (length s) ≡ bytes_of words
    value-back =
        payload-at s (pre ++ opening_bytes n) [] (bytes_of words) 4 (at + 12) value_in past-size (at + 16) (length s)
        (omega arith) (omega (arith, value-end, length-bytes_of words))

    compact-attributes : attributes s at ≡ opened (attribute 4 0 (at + 16) (length s) done)
    compact-attributes =
        opening-back
        ∙ ap opened
        (attribute-at s (pre ++ opening_bytes n) [] (bytes_of words) 4 (at + 12) value_in past-size (at + 16) (length s) (length s)
        (omega arith) (omega (arith, length-bytes_of words)) (omega arith) (omega (arith, value-end, length-bytes_of words))
        (omega (arith, value-end, length-attr 4 (bytes_of words), length-bytes_of words))
        ∙ ap (attribute 4 0 (at + 16) (length s)) (attributes-end s (length s) (omega arith)))

    compact-walked : walked bitset_policy s at
        ≡ record { stop = Whole; slots = absent ∷ found (at + 4) (at + 4) ∷ found (at + 8) (at + 12) ∷ absent ∷ found (at + 16) (length s) ∷ absent ∷ absent ∷ absent ∷ [] }
    unfolding opened first_fault last_of_type judged rule_of plain
    compact-walked =
        walked_by bitset_policy s at (opened (attribute 4 0 (at + 16) (length s) done)) compact-attributes (rw (nomask-back, size_back))

    compact-back : bitset_reading s at names ≡ accepted (nomask_bitmap n (has (words_in (bytes_of words))))
    unfolding bitset_parts bitset_parts_reading mixed_at compact_reading nomask_reading
    compact-back =
        by-walk _ compact-walked
        ∙ rw
        (number-back, value-back, length-bytes_of words, en, le-ltb (length words * 4 / 4) (words_for n) (omega arith), none_between (has (words_in (bytes_of words))) n)

  -- verbose: BITS is behind it
  module _ (right : names_right names ≡ true) (listed : ℕ → Bool) (ep : post ≡ nest 3 (bits_bytes names listed n) ++ []) (short : Short names n) where
    bits_in : s ≡ (pre ++ opening_bytes n) ++ (nest 3 (bits_bytes names listed n) ++ [])
    bits_in = post_in ∙ ap (λ (l : List ℕ). (pre ++ opening_bytes n) ++ l) ep

    bits-end : length s ≡ at + 16 + length (bits_bytes names listed n)
    bits-end =
        ap length bits_in
        ∙ omega (arith, length-append (pre ++ opening_bytes n) (nest 3 (bits_bytes names listed n) ++ []), length-append (nest 3 (bits_bytes names listed n)) [], length-nest 3 (bits_bytes names listed n), past-size)

    verbose-attributes : attributes s at ≡ opened (attribute 3 2 (at + 16) (length s) done)
    verbose-attributes =
        let most = bits_most names listed n short in
        opening-back
        ∙ ap opened
        (nest-at s (pre ++ opening_bytes n) [] (bits_bytes names listed n) 3 (at + 12) bits_in past-size (at + 16) (length s) (length s)
        (omega arith) (omega arith) (bits-whole names listed n) (omega arith) (omega (arith, bits-end))
        (omega (arith, bits-end, length-nest 3 (bits_bytes names listed n)))
        ∙ ap (attribute 3 2 (at + 16) (length s)) (attributes-end s (length s) (omega arith)))

    verbose-walked : walked bitset_policy s at
        ≡ record { stop = Whole; slots = absent ∷ found (at + 4) (at + 4) ∷ found (at + 8) (at + 12) ∷ found (at + 16) (length s) ∷ absent ∷ absent ∷ absent ∷ absent ∷ [] }
    unfolding opened first_fault last_of_type judged rule_of plain nested
    verbose-walked =
        walked_by bitset_policy s at (opened (attribute 3 2 (at + 16) (length s) done)) verbose-attributes (rw (nomask-back, size_back))

    verbose-back : bitset_reading s at names ≡ accepted (nomask_list (listed_from listed 0 n))
    unfolding bitset_parts bitset_parts_reading mixed_at list_reading
    verbose-back =
        let bits = bits_bytes names listed n in
        let all = part-all s (length s) refl in
        let cut = cut_at s (pre ++ opening_bytes n) [] bits 3 (at + 12) bits_in past-size (length s) (omega (arith, bits-end)) in
        let place = contents-at s (pre ++ opening_bytes n) [] bits 3 (at + 12) bits_in past-size (at + 16) (omega arith) in
        let read = list_back names listed s right (omega arith) (up_to (pre ++ opening_bytes n) 3 bits) n (at + 16) (sym all ∙ cut) place (omega arith) short in
        by-walk _ verbose-walked
        ∙ rw (all, stop_is bits_policy s (at + 16), read.0, read.1)

-- the contents of a set whose names are right, in either form
module _ (pre names words : List ℕ) (n : ℕ) (right : names_right names ≡ true) (en : count names ≡ n) (ew : length words ≡ words_for n)
    (below : Below n (has words)) where
  few : n ≤ 512
  few = rw en at (right-means names right).few

  compact-reads : ReadsBack (pre ++ compact_bytes words n) (length pre) names (has words)
  unfolding compact_bytes effect
  compact-reads =
      let value = attr 4 (bytes_of words) in (
        nomask_bitmap n (has (words_in (bytes_of words))),
        compact-back (pre ++ compact_bytes words n) pre value names n (length pre) refl refl few en words (sym (append-nil value)) ew,
        λ start i. ⊎_elim (λ (l : i < n). rw (lt-ltb i n l) (has-again words i)) (λ (l : n ≤ i). rw (le-ltb i n l) (sym (below i l))) (lt-or-ge i n),
      )

  verbose-reads : ReadsBack (pre ++ verbose_bytes names words n) (length pre) names (has words)
  unfolding verbose_bytes effect
  verbose-reads =
      let bits = nest 3 (bits_bytes names (has words) n) in
      let short : Short names n = rw en at (right-short names right) in (
        nomask_list (listed_from (has words) 0 n),
        verbose-back (pre ++ verbose_bytes names words n) pre bits names n (length pre) refl refl few en right (has words) (sym (append-nil bits)) short,
        λ start i. mask-back (has words) n i below,
      )

  pub set_back : (compact : Bool) → ReadsBack (pre ++ contents_bytes compact names words n) (length pre) names (has words)
  unfolding contents_bytes
  set_back true = compact-reads
  set_back false = verbose-reads
