-- An accepted bitset speaks of no bit at or past N.
use Rattle.std.specs.Prelude.{Option, Some, None, Result, Ok, Err}
use Prim.Native.Nat.{ℕ, ◌-◌, ◌/◌, ◌<◌}
use mathlib.Core.Path.{◌≡◌, refl, sym, ap, ◌∙◌}
use mathlib.Core.List.{List, [], ◌∷◌}
use mathlib.Core.Bool.{Bool, true, false, ◌&&◌, not, cond}
use lib.ListN.{length}
use lib.Dec.{ltb, leb, eqb}
use native.Mathlib.Omega.{arith}
use borrow.Author.Tests.{le-leb, leb-false, ltb-true, ne_eqb}
use Rattle.basics.proofs.Scan.{any-not}
use Rattle.bits.specs.Set.{has, some_past, past, words_for}
use Rattle.word_bytes.specs.Bytes.{words_in}
use Rattle.bits.specs.Change.{Below, Listed, list_mask}
use Rattle.entries.specs.Entry.{count}
use Rattle.names.specs.Search.{lookup}
use Rattle.names.proofs.Search.{lookup-found}
use Rattle.netlink_attributes.specs.Attributes.{Attributes, attributes, part_of}
use Rattle.netlink_attributes.specs.Attributes.Attributes.{done, broken, attribute}
use Rattle.netlink.specs.Walk.{walked, slot_number}
use Rattle.netlink.specs.declared.walk.Slot.{Slot}
use Rattle.netlink.specs.declared.walk.Stop.{Stop}
use Rattle.netlink.specs.declared.walk.Stop.TheVariants as S
use Rattle.refusal.specs.declared.Refusal.{Refusal}
use Rattle.refusal.specs.declared.Refusal.TheVariants.{MissingIn, ShortBitmap, PastLength}
use Rattle.bitset_form.specs.Parts.{bitset_parts, bit_parts}
use Rattle.bitset_form.specs.declared.parts.BitsetParts.{BitsetParts}
use Rattle.bitset_form.specs.declared.parts.BitParts.{BitParts}
use Rattle.bitset_form.specs.Policies.{bitset_policy, bit_policy, bits_policy}
use Rattle.bitset_form.specs.Bitset.{Bitset, Reading}
use Rattle.bitset_form.specs.Bitset.Bitset.{masked_bitmap, nomask_bitmap, masked_list, nomask_list}
use Rattle.bitset_form.specs.Bitset.Reading.{refused, accepted}
use Rattle.bitset_compact.specs.Compact.{bitmap, nomask_reading, masked_reading, compact_reading}
use Rattle.bitset_bit.specs.Bit.{Identity, on_lookup, bit_by_index, bit_by_name, identified, on_identity, bit_parts_reading, bit_reading}
use Rattle.bitset_bit.proofs.Laws.{by-walk}
use Rattle.bitset_bit.proofs.Combined.{Said, combined-said}
use Rattle.bitset_bit.proofs.Combined.Said.{both_say, index-says, name-says}
use Rattle.refusal.specs.Refusal.{on_stop}
use Rattle.basics.specs.Results.{and_then}
use Rattle.bitset_bit.specs.declared.Bit.{Bit}
use Rattle.bitset_list.specs.BitList.{ListReading, on_bit, bits_reading, as_bitset, list_reading}
use Rattle.bitset_list.specs.BitList.ListReading.{list_refused, list_entries}
use Rattle.bitset.specs.Judge as J
use Rattle.normal.specs.Fits.{Fits}

-- a refusal is no acceptance
pub never : (r : Refusal) (b : Bitset) → refused r ≡ accepted b → ⊥
never r b e = let z : ◌≡◌ {A = ℕ} 0 1 = cc in omega arith

-- a check that was passed
pub pass : (t : Bool) (r : Refusal) (x : Reading) (b : Bitset) → cond t (refused r) x ≡ accepted b → (t ≡ false) × (x ≡ accepted b)
pass true r x b e = absurd (never r b e)
pass false r x b e = (refl, e)

pub pass-stop : (t : Stop) (x : Reading) (b : Bitset) → on_stop t refused x ≡ accepted b → x ≡ accepted b
pass-stop S.Whole x b e = e
pass-stop (S.At f at) x b e = absurd (never _ b e)

-- what is accepted is one bitset
pub same-bitset : (a b : Bitset) → accepted a ≡ accepted b → b ≡ a
same-bitset a b e = cc

-- no bit i with N <= i < SIZE: no bit of those below SIZE is at or past N
none-past : (f : ℕ → Bool) (n size : ℕ) → some_past f n size ≡ false → Below n (λ i. ltb i size && f i)
unfolding some_past past
none-past f n size h i l = go (ltb i size) refl
  where
    go : (t : Bool) → ltb i size ≡ t → t && f i ≡ false
    go false e = refl
    go true e = rw (le-leb n i l) at (any-not (past n f) size i h (ltb-true i size e))

whole-fits : (s : List ℕ) (n size : ℕ) (parts : BitsetParts) (b : Bitset) → nomask_reading s n size parts ≡ accepted b → Fits n b
unfolding nomask_reading
whole-fits s n size parts b e =
    let f = has (words_in (bitmap s parts.value)) in
    let last : Reading = accepted (nomask_bitmap size f) in
    let then : Reading = cond (some_past f n size) (refused (PastLength (parts.value.start - 4))) last in
    let one = pass (ltb (length (bitmap s parts.value) / 4) (words_for size)) (ShortBitmap (parts.value.start - 4)) then b e in
    let two = pass (some_past f n size) (PastLength (parts.value.start - 4)) last b one.1 in
    rw (same-bitset (nomask_bitmap size f) b two.1) (none-past f n size two.0)

masked-fits : (s : List ℕ) (nest n size : ℕ) (parts : BitsetParts) (b : Bitset) → masked_reading s nest n size parts ≡ accepted b → Fits n b
unfolding masked_reading
masked-fits s nest n size parts b e =
    let f = has (words_in (bitmap s parts.mask)) in
    let last : Reading = accepted (masked_bitmap size (has (words_in (bitmap s parts.value))) f) in
    let past : Reading = cond (some_past f n size) (refused (PastLength (parts.mask.start - 4))) last in
    let short : Reading = cond (ltb (length (bitmap s parts.mask) / 4) (words_for size)) (refused (ShortBitmap (parts.mask.start - 4))) past in
    let rest : Reading = cond (ltb (length (bitmap s parts.value) / 4) (words_for size)) (refused (ShortBitmap (parts.value.start - 4))) short in
    let one = pass (not parts.mask.present) (MissingIn 5 nest) rest b e in
    let two = pass (ltb (length (bitmap s parts.value) / 4) (words_for size)) (ShortBitmap (parts.value.start - 4)) short b one.1 in
    let three = pass (ltb (length (bitmap s parts.mask) / 4) (words_for size)) (ShortBitmap (parts.mask.start - 4)) past b two.1 in
    let four = pass (some_past f n size) (PastLength (parts.mask.start - 4)) last b three.1 in
    rw (same-bitset (masked_bitmap size (has (words_in (bitmap s parts.value))) f) b four.1) (none-past f n size four.0)

compact-fits : (s : List ℕ) (nest n : ℕ) (parts : BitsetParts) (b : Bitset) → compact_reading s nest n parts ≡ accepted b → Fits n b
unfolding compact_reading
compact-fits s nest n parts b e =
    let rest : Reading = cond parts.nomask.present (nomask_reading s n (slot_number s parts.size) parts) (masked_reading s nest n (slot_number s parts.size) parts) in
    let one = pass (not parts.size.present) (MissingIn 2 nest) (cond (not parts.value.present) (refused (MissingIn 4 nest)) rest) b e in
    let two = pass (not parts.value.present) (MissingIn 4 nest) rest b one.1 in
    go parts.nomask.present two.1
  where
    go : (t : Bool) → cond t (nomask_reading s n (slot_number s parts.size) parts) (masked_reading s nest n (slot_number s parts.size) parts) ≡ accepted b → Fits n b
    go true q = whole-fits s n (slot_number s parts.size) parts b q
    go false q = masked-fits s nest n (slot_number s parts.size) parts b q

-- the number of a BIT is below N
index_below : (s : List ℕ) (n : ℕ) (index : Slot) (k : ℕ) → bit_by_index s n index ≡ Ok (Some k) → k < n
unfolding bit_by_index
index_below s n index k e = go index.present (leb n (slot_number s index)) refl e
  where
    go : (t u : Bool) → leb n (slot_number s index) ≡ u
        → cond t (cond u (Err (PastLength (index.start - 4))) (Ok (Some (slot_number s index)))) (Ok None) ≡ Ok (Some k) → k < n
    go true true q e = absurd (let z : ◌≡◌ {A = ℕ} 0 1 = cc in omega arith)
    go true false q e = let k : k ≡ slot_number s index = cc in omega (arith, leb-false n (slot_number s index) q)
    go false u q e = absurd (let z : ◌≡◌ {A = ℕ} 0 1 = cc in omega arith)

name_below : (s names : List ℕ) (name : Slot) (k : ℕ) → bit_by_name s names name ≡ Ok (Some k) → k < count names
unfolding bit_by_name
name_below s names name k e = go name.present (lookup names p).bit refl e
  where
    p : List ℕ
    p = part_of s name.start name.end

    go : (t : Bool) (u : Option ℕ) → (lookup names p).bit ≡ u
        → cond t (on_lookup u (name.start - 4)) (Ok None) ≡ Ok (Some k) → k < count names
    go true (Some j) q e = let i : k ≡ j = cc in rw i (lookup-found names p j q).0
    go true None q e = absurd (let z : ◌≡◌ {A = ℕ} 0 1 = cc in omega arith)
    go false u q e = absurd (let z : ◌≡◌ {A = ℕ} 0 1 = cc in omega arith)

pub identified-below : (s names : List ℕ) (at : ℕ) (parts : BitParts) (k : ℕ) → identified s names at parts ≡ Ok (Some k) → k < count names
unfolding identified
identified-below s names at parts k e = go (combined-said _ k _ _ e)
  where
    go : Said k (bit_by_index s (count names) parts.index) (bit_by_name s names parts.name) → k < count names
    go (both_say x y) = index_below s (count names) parts.index k x
    go (index-says x y) = index_below s (count names) parts.index k x
    go (name-says x y) = name_below s names parts.name k y

-- the number of a BIT, 0 where it is refused
abbrev number_in : Result Bit Refusal → ℕ
number_in (Ok b) = b.number
number_in (Err r) = 0

bit_below : (s names : List ℕ) (from : ℕ) (b : Bit) → bit_reading s names from ≡ Ok b → b.number < count names
unfolding bit_parts_reading
bit_below s names from b e = go (walked bit_policy s from).stop (identified s names (from - 4) parts) refl (sym (by-walk s names from) ∙ e)
  where
    parts : BitParts
    parts = bit_parts (walked bit_policy s from).slots

    go : (t : Stop) (l : Identity) → identified s names (from - 4) parts ≡ l
        → on_stop t Err (and_then l (on_identity (from - 4) parts.on.present)) ≡ Ok b → b.number < count names
    go (S.At f at) l q e = absurd (let z : ◌≡◌ {A = ℕ} 0 1 = cc in omega arith)
    go S.Whole (Err r) q e = absurd (let z : ◌≡◌ {A = ℕ} 0 1 = cc in omega arith)
    go S.Whole (Ok None) q e = absurd (let z : ◌≡◌ {A = ℕ} 0 1 = cc in omega arith)
    go S.Whole (Ok (Some j)) q e = let i : b.number ≡ j = ap (λ (x : Result Bit Refusal). number_in x) (sym e) in rw i (identified-below s names (from - 4) parts j q)

bits_below : (s names : List ℕ) (xs : Attributes) (es : List Listed) → bits_reading s names xs ≡ list_entries es → Below (count names) (list_mask es)
unfolding bits_reading list_mask
bits_below s names done es e i l = let q : es ≡ [] = cc in rw q
bits_below s names (broken at) es e i l = let q : es ≡ [] = cc in rw q
bits_below s names (attribute k b a z rest) es e i l =
    go (bit_reading (part_of s 0 z) names a) refl (bits_reading s names rest) refl e (λ fs h. bits_below s names rest fs h i l)
  where
    go : (v : Result Bit Refusal) → bit_reading (part_of s 0 z) names a ≡ v → (x : ListReading) → bits_reading s names rest ≡ x → on_bit v x ≡ list_entries es
        → ((fs : List Listed) → bits_reading s names rest ≡ list_entries fs → list_mask fs i ≡ false) → list_mask es i ≡ false
    go (Err r) q x u e f = absurd (let z : ◌≡◌ {A = ℕ} 0 1 = cc in omega arith)
    go (Ok b) q (list_refused r) u e f = absurd (let z : ◌≡◌ {A = ℕ} 0 1 = cc in omega arith)
    go (Ok b) q (list_entries fs) u e f =
        let w : es ≡ record { bit = b.number; on = b.on } ∷ fs = cc in
        let lt = bit_below (part_of s 0 z) names a b q in
        let ne : eqb i b.number ≡ false = ne_eqb i b.number (λ h. omega arith) in
        rw w (rw (ne, f fs u))

list-fits : (s names : List ℕ) (parts : BitsetParts) (b : Bitset) → list_reading s names parts ≡ accepted b → Fits (count names) b
unfolding list_reading
list-fits s names parts b e =
    go parts.nomask.present (bits_reading p names xs) refl (pass-stop (walked bits_policy p parts.bits.start).stop _ b e)
  where
    p : List ℕ
    p = part_of s 0 parts.bits.end

    xs : Attributes
    xs = attributes p parts.bits.start

    go : (t : Bool) (x : ListReading) → bits_reading p names xs ≡ x → as_bitset t x ≡ accepted b → Fits (count names) b
    go true (list_refused r) q e = absurd (never r b e)
    go false (list_refused r) q e = absurd (never r b e)
    go true (list_entries es) q e = let w : b ≡ nomask_list es = cc in rw w (bits_below p names xs es q)
    go false (list_entries es) q e = let w : b ≡ masked_list es = cc in rw w (bits_below p names xs es q)

-- of an accepted bitset
pub accepted-fits : (s : List ℕ) (from : ℕ) (names : List ℕ) (b : Bitset) → J.bitset_reading s from names ≡ accepted b → Fits (count names) b
unfolding J.bitset_reading J.bitset_parts_reading
accepted-fits s from names b e =
    go (J.mixed_at parts) parts.bits.present (pass-stop (walked bitset_policy s from).stop _ b e)
  where
    parts : BitsetParts
    parts = bitset_parts (walked bitset_policy s from).slots

    go : (m : Option ℕ) (t : Bool) → J.on_mixing m (cond t (list_reading s names parts) (compact_reading s (from - 4) (count names) parts)) ≡ accepted b
        → Fits (count names) b
    go (Some at) t e = absurd (never _ b e)
    go None true e = list-fits s names parts b e
    go None false e = compact-fits s (from - 4) (count names) parts b e
