-- Read back: one BIT whose INDEX is below N, and whose NAME, where it has one, is that of INDEX's entry, says its bit, without the VALUE flag.
use Rattle.std.specs.Prelude.{Some, Ok, Err}
use Rattle.basics.specs.Results.{and_then}
use Prim.Native.Nat.{ℕ, ◌+◌, ◌-◌, ◌<◌}
use mathlib.Core.Path.{◌≡◌, refl, sym, ap, ◌∙◌}
use mathlib.Core.Bool.{Bool, true, false, cond}
use mathlib.Core.List.{List, [], ◌∷◌, ◌++◌, append_assoc, append-nil}
use lib.ListN.{length, length-append}
use lib.Dec.{eqb}
use native.Mathlib.Omega.{arith}
use borrow.Author.Tests.{lt-leb, eq-eqb}
use Rattle.basics.specs.Numbers.{le32, u32_at}
use Rattle.basics.proofs.Numbers.{u32-le32}
use Rattle.basics.proofs.Truth.{cond-true}
use Rattle.entries.specs.Entry.{count, entry_at}
use Rattle.names.specs.Rule.{names_right}
use Rattle.netlink_attributes.specs.Attributes.{attributes, part_of}
use Rattle.netlink_attributes.specs.Attributes.Attributes.{done, attribute}
use Rattle.netlink.specs.Policy.{nul_at, rule_of, plain, judged}
use Rattle.netlink.specs.Walk.{found, absent, first_fault, last_of_type, walked, slot_number}
use Rattle.netlink.specs.declared.walk.Slot.{Slot}
use Rattle.netlink.specs.declared.walk.Stop.TheVariants.{Whole}
use Rattle.netlink_write.specs.Attributes.{attr, name_bytes}
use Rattle.index_name.specs.IndexName.{name_if_any, index_and_name}
use Rattle.netlink_write.proofs.ReadBack.{attributes-end, name_back}
use Rattle.netlink_write.proofs.attributes.Laws.{length-attr}
use Rattle.refusal.specs.declared.Refusal.TheVariants.{TwoBits}
use Rattle.bitset_form.specs.Policies.{bit_policy}
use Rattle.bitset_form.specs.Parts.{bit_parts}
use Rattle.bitset_bit.specs.Bit.{Identity, bit_by_index, bit_by_name, combined, identified, on_identity, bit_parts_reading, bit_walked, bit_reading}
use Rattle.netlink_write.proofs.attributes.Laws.{length-name_bytes}
use Rattle.read_back.proofs.Places.{payload-at, attribute-at, walked_by}
use Rattle.read_back.proofs.Name.{own-name-found}

module _ (s front names : List ℕ) (right : names_right names ≡ true) (i at : ℕ) (ea : at ≡ length front) (few : i < 4294967296) (l : i < count names) where
  abbrev name : List ℕ
  name = entry_at names i

  module _ (rest : List ℕ) (e : s ≡ front ++ (attr 1 (le32 i) ++ rest)) where
    index_at : attributes s at ≡ attribute 1 0 (at + 4) (at + 8) (attributes s (at + 8))
    index_at =
        attribute-at s front rest (le32 i) 1 at e ea (at + 4) (at + 8) (at + 8)
        (omega arith) (omega arith) refl (omega arith) (omega (arith, length-attr 1 (le32 i)))

    index_back : part_of s (at + 4) (at + 8) ≡ le32 i
    index_back = payload-at s front rest (le32 i) 1 at e ea (at + 4) (at + 8) refl (omega arith)

    number-back : slot_number s (found (at + 4) (at + 8)) ≡ i
    unfolding slot_number
    number-back = ap (λ (x : List ℕ). u32_at x 0) index_back ∙ u32-le32 i [] few

    rest_in : s ≡ (front ++ attr 1 (le32 i)) ++ rest
    rest_in = e ∙ sym (append_assoc front (attr 1 (le32 i)) rest)

    rest_at : at + 8 ≡ length (front ++ attr 1 (le32 i))
    rest_at = omega (arith, length-append front (attr 1 (le32 i)), length-attr 1 (le32 i))

    rest_end : length s ≡ at + 8 + length rest
    rest_end = ap length rest_in ∙ omega (arith, rest_at, length-append (front ++ attr 1 (le32 i)) rest)

    index_read : bit_by_index s (count names) (found (at + 4) (at + 8)) ≡ Ok (Some i)
    unfolding bit_by_index
    index_read = rw (number-back, lt-leb (count names) i l)

    -- by the walk, whether a NAME stands or not
    says : (x : Slot)
        → walked bit_policy s at
        ≡ record { stop = Whole; slots = absent ∷ found (at + 4) (at + 8) ∷ x ∷ absent ∷ absent ∷ absent ∷ absent ∷ absent ∷ [] }
        → combined (at - 4) (Ok (Some i)) (bit_by_name s names x) ≡ Ok (Some i) → bit_reading s names at ≡ Ok (record { number = i; on = false })
    unfolding bit_reading bit_walked bit_parts bit_parts_reading identified
    says x w agree =
        rw w (ap (λ (y : Identity). and_then y (on_identity (at - 4) false)) (ap (λ (y : Identity). combined (at - 4) y (bit_by_name s names x)) index_read ∙ agree))

  -- without a name
  plain-bit : s ≡ front ++ (attr 1 (le32 i) ++ []) → bit_reading s names at ≡ Ok (record { number = i; on = false })
  unfolding first_fault last_of_type judged rule_of plain bit_by_name
  plain-bit e =
      let end = attributes-end s (at + 8) (omega (arith, rest_end [] e)) in
      says [] e absent
      (walked_by bit_policy s at (attribute 1 0 (at + 4) (at + 8) done) (index_at [] e ∙ ap (attribute 1 0 (at + 4) (at + 8)) end)
      (rw (index_back [] e))) refl

  -- with one
  module _ (short : nul_at name < 32) (e : s ≡ front ++ (attr 1 (le32 i) ++ attr 2 (name_bytes name))) where
    end : ℕ
    end = at + 12 + length (name_bytes name)

    name_in : s ≡ (front ++ attr 1 (le32 i)) ++ (attr 2 (name_bytes name) ++ [])
    name_in =
        rest_in (attr 2 (name_bytes name)) e
        ∙ ap (λ (x : List ℕ). (front ++ attr 1 (le32 i)) ++ x) (sym (append-nil (attr 2 (name_bytes name))))

    name-at : attributes s (at + 8) ≡ attribute 2 0 (at + 12) end done
    unfolding end
    name-at =
        let long = length-name_bytes name in
        attribute-at s (front ++ attr 1 (le32 i)) [] (name_bytes name) 2 (at + 8) name_in (rest_at (attr 2 (name_bytes name)) e) (at + 12) end (length s)
        (omega arith) (omega arith) (omega arith) (omega arith) (rest_end (attr 2 (name_bytes name)) e)
        ∙ ap (attribute 2 0 (at + 12) end) (attributes-end s (length s) (omega arith))

    name-is : part_of s (at + 12) end ≡ name_bytes name
    unfolding end
    name-is =
        payload-at s (front ++ attr 1 (le32 i)) [] (name_bytes name) 2 (at + 8) name_in (rest_at (attr 2 (name_bytes name)) e) (at + 12) end
        (omega arith) (omega arith)

    name-read : eqb (nul_at name) 0 ≡ false → bit_by_name s names (found (at + 12) end) ≡ Ok (Some i)
    unfolding bit_by_name
    name-read some = rw (name-is, own-name-found names right i l short some)

    own-bit : combined (at - 4) (Ok (Some i)) (Ok (Some i)) ≡ Ok (Some i)
    own-bit = cond-true (eqb i i) (Ok (Some i)) (Err (TwoBits (at - 4))) (eq-eqb i i refl)

    named-bit : eqb (nul_at name) 0 ≡ false → bit_reading s names at ≡ Ok (record { number = i; on = false })
    unfolding first_fault last_of_type judged rule_of plain
    named-bit some =
        says (attr 2 (name_bytes name)) e (found (at + 12) end)
        (walked_by bit_policy s at (attribute 1 0 (at + 4) (at + 8) (attribute 2 0 (at + 12) end done))
        (index_at (attr 2 (name_bytes name)) e ∙ ap (attribute 1 0 (at + 4) (at + 8)) name-at)
        (rw (index_back (attr 2 (name_bytes name)) e, name-is, name_back name 32 short)))
        (ap (combined (at - 4) (Ok (Some i))) (name-read some) ∙ own-bit)

  pub bit-back : nul_at name < 32 → s ≡ front ++ index_and_name i name → bit_reading s names at ≡ Ok (record { number = i; on = false })
  unfolding index_and_name name_if_any
  bit-back short e = go (eqb (nul_at name) 0) refl e
    where
      go : (t : Bool) → eqb (nul_at name) 0 ≡ t → s ≡ front ++ (attr 1 (le32 i) ++ cond t [] (attr 2 (name_bytes name))) → bit_reading s names at ≡ Ok (record { number = i; on = false })
      go true q e = plain-bit e
      go false q e = named-bit short e q
