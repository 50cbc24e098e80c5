-- How long STRINGSETS is: whole words, and at most 26,648 bytes for a set of 512 names.
use Prim.Native.Nat.{ℕ, ◌+◌, ◌%◌, ◌≤◌}
use mathlib.Core.Path.{◌≡◌, refl}
use mathlib.Core.Bool.{Bool, true, false}
use mathlib.Core.List.{List, ◌++◌}
use lib.ListN.{length, length-append}
use native.Mathlib.Omega.{arith}
use Rattle.basics.specs.Numbers.{le32}
use Rattle.entries.specs.Entry.{count}
use Rattle.netlink_write.specs.Attributes.{attr}
use Rattle.netlink_write.proofs.attributes.Laws.{length-attr, length-nest}
use Rattle.layout.specs.Layout.{names_of, list_of}
use Rattle.layout.specs.declared.Set.{Set}
use Rattle.layout.specs.declared.Set.TheVariants.{Debug, Flags}
use Rattle.strset_request.specs.Set.{id_of}
use Rattle.strset_request.specs.declared.list.Sets.{Sets}
use Rattle.strset_request.specs.declared.list.Sets.TheVariants.{Nothing, One, Both}
use Rattle.strset_reply.specs.Strings.{strings_bytes}
use Rattle.strset_reply.specs.Sets.{strings_if, set_contents, string_set, other_set, sets_bytes}
use Rattle.strset_reply.proofs.strings.Lengths.{strings-whole, strings-most}

-- STRINGS, or nothing
module _ (names : List ℕ) where
  pub length_none : length (strings_if true names) ≡ 0
  unfolding strings_if
  length_none = refl

  pub length-if : length (strings_if false names) ≡ length (strings_bytes names (count names)) + 4
  unfolding strings_if
  length-if = length-nest 3 (strings_bytes names (count names))

  pub if-whole : (counts : Bool) → length (strings_if counts names) % 4 ≡ 0
  if-whole true = omega (arith, length_none)
  if-whole false = omega (arith, length-if, strings-whole names (count names))

  pub if-most : (counts : Bool) → count names ≤ 512 → length (strings_if counts names) ≤ 26628
  if-most true few = omega (arith, length_none)
  if-most false few = omega (arith, length-if, strings-most names (count names))

  pub length-contents : (counts : Bool) (id : ℕ) → length (set_contents counts id names) ≡ length (strings_if counts names) + 16
  unfolding set_contents
  length-contents counts id =
      let two = attr 2 (le32 (count names)) in
      let rest = strings_if counts names in
      omega (arith, length-append (attr 1 (le32 id)) (two ++ rest), length-append two rest, length-attr 1 (le32 id), length-attr 2 (le32 (count names)))

module _ (counts : Bool) (debug flags : List ℕ) where
  -- a STRINGSET
  pub length-set : (set : Set) → length (string_set counts (names_of debug flags) set) ≡ length (strings_if counts (list_of (names_of debug flags) set)) + 20
  unfolding string_set
  length-set set =
      let names = list_of (names_of debug flags) set in
      omega (arith, length-nest 1 (set_contents counts (id_of set) names), length-contents names counts (id_of set))

  pub set-whole : (set : Set) → length (string_set counts (names_of debug flags) set) % 4 ≡ 0
  set-whole set = omega (arith, length-set set, if-whole (list_of (names_of debug flags) set) counts)

  -- those of the sets
  pub length_both : (first : Set) → length (sets_bytes counts (names_of debug flags) (Both first))
      ≡ length (string_set counts (names_of debug flags) first) + length (string_set counts (names_of debug flags) (other_set first))
  unfolding sets_bytes
  length_both first = length-append (string_set counts (names_of debug flags) first) (string_set counts (names_of debug flags) (other_set first))

  pub sets-whole : (sets : Sets) → length (sets_bytes counts (names_of debug flags) sets) % 4 ≡ 0
  unfolding sets_bytes
  sets-whole Nothing = refl
  sets-whole (One set) = set-whole set
  sets-whole (Both first) = omega (arith, length_both first, set-whole first, set-whole (other_set first))

  module _ (hd : count debug ≤ 512) (hf : count flags ≤ 512) where
    pub list-few : (set : Set) → count (list_of (names_of debug flags) set) ≤ 512
    unfolding list_of
    list-few Debug = hd
    list-few Flags = hf

    pub set-most : (set : Set) → length (string_set counts (names_of debug flags) set) ≤ 26648
    set-most set = omega (arith, length-set set, if-most (list_of (names_of debug flags) set) counts (list-few set))

    pub sets-most : (sets : Sets) → length (sets_bytes counts (names_of debug flags) sets) ≤ 53296
    unfolding sets_bytes
    sets-most Nothing = omega arith
    sets-most (One set) = omega (arith, set-most set)
    sets-most (Both first) = omega (arith, length_both first, set-most first, set-most (other_set first))
