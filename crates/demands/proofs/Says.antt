-- What an accepted bitset says is what stands in its bytes: no BIT is left out or passed over, and each part is obeyed as it stands.
--     accepted-says   of every bitset that is accepted
--     set_says        of the bitset that a done SET of the exported handler carries out, where it stands in the request
--     normal-says     of the bitset in contents that the normaliser answers by 0
--     byte-bit        bit i below SIZE of a VALUE or a MASK is bit i % 8 of byte i / 8 of its payload
use Rattle.refusal.specs.declared.Refusal.{Refusal}
use Rattle.std.specs.Prelude.{Option, Some, Result, Ok, Err}
use Rattle.std.specs.Prelude as O
use Rattle.basics.specs.Results.{and_then}
use Rattle.bitset_bit.specs.declared.Bit.{Bit}
use Prim.Native.Nat.{ℕ, zero, suc, ◌+◌, ◌-◌, ◌*◌, ◌/◌, ◌%◌, ◌^◌, ◌≤◌, ◌<◌}
use mathlib.Core.Path.{◌≡◌, refl, sym, ap, ◌∙◌}
use mathlib.Core.List.{List, [], ◌∷◌}
use mathlib.Core.Bool.{Bool, true, false, ◌&&◌, not, cond}
use mathlib.Core.Logic.{◌⊎◌, inl, inr, ⊎_elim}
use lib.ListN.{length, take, drop, get_or, length-take, get_or-eq_default}
use lib.Seq.{get_or-take, get_or-drop}
use lib.Dec.{eqb, ltb, leb}
use lib.Pow.{shr-shr}
use native.Mathlib.Omega.{arith}
use borrow.Author.Tests.{ltb-false, not-false}
use Rattle.basics.specs.Numbers.{byte_at, u16_at, u32_at}
use Rattle.basics.proofs.Order.{lt-or-ge}
use Rattle.basics.proofs.Truth.{clash}
use Rattle.bits.specs.Bit.{test}
use Rattle.bits.specs.Set.{has, some_past, words_for}
use Rattle.bits.specs.Change.{Listed}
use Rattle.bits.proofs.Bit.{test_low}
use Rattle.word_bytes.specs.Bytes.{words_in, Bytes}
use Rattle.word_bytes.proofs.WordBytes.{word_in}
use Rattle.entries.specs.Entry.{count}
use Rattle.names.specs.Search.{lookup}
use Rattle.netlink_attributes.specs.Attributes.{Attributes, attributes, part_of}
use Rattle.netlink_attributes.specs.Attributes.Attributes.{done, attribute, broken}
use Rattle.netlink_attributes.specs.Claims.{Apart}
use Rattle.netlink_attributes.proofs.Apart.{apart}
use Rattle.netlink.specs.Walk.{absent, found, last_of_type, walked, slot_number}
use Rattle.netlink.specs.Claims.{None, LastIs}
use Rattle.netlink.specs.declared.policy.Rule.{Rule}
use Rattle.netlink.specs.Claims.{Passed}
use Rattle.netlink.specs.Claims.Passed.{here, next}
use Rattle.netlink.proofs.walk.Meaning.{whole-passed, stop_is, slot_is, last-is}
use Rattle.netlink.proofs.walk.Laws.{slot-there}
use Rattle.netlink.specs.declared.walk.Slot.{Slot}
use Rattle.netlink.specs.declared.walk.Stop.{Stop}
use Rattle.netlink.specs.declared.walk.Stop.TheVariants.{Whole, At}
use Rattle.netlink_headers.specs.Headers.{message_header}
use Rattle.netlink_headers.specs.declared.headers.MessageHeader.{MessageHeader}
use Rattle.refusal.specs.Refusal.{on_stop}
use Rattle.refusal.specs.declared.Refusal.TheVariants.{MissingIn, ShortBitmap, PastLength}
use Rattle.bitset_form.specs.Policies.{bitset_policy, bits_policy, bit_policy}
use Rattle.bitset_form.specs.Parts.{bitset_parts, bit_parts}
use Rattle.bitset_form.specs.declared.parts.BitsetParts.{BitsetParts}
use Rattle.bitset_form.specs.declared.parts.BitParts.{BitParts}
use Rattle.bitset_form.specs.Bitset.{Bitset, Reading}
use Rattle.bitset_form.specs.Bitset.Bitset.{masked_bitmap, nomask_bitmap, masked_list, nomask_list}
use Rattle.bitset_form.specs.Bitset.Reading.{refused, accepted}
use Rattle.bitset_compact.specs.Compact.{nomask_reading, masked_reading, compact_reading}
use Rattle.bitset_bit.specs.Bit.{Identity, on_lookup, bit_by_index, bit_by_name, identified, on_identity, bit_parts_reading, bit_reading}
use Rattle.bitset_bit.proofs.Laws.{by-walk}
use Rattle.bitset_bit.proofs.Combined.{Said, combined-said}
use Rattle.bitset_bit.proofs.Combined.Said.{both_say, index-says, name-says}
use Rattle.bitset_list.specs.BitList.{ListReading, on_bit, bits_reading, as_bitset, list_reading}
use Rattle.bitset_list.specs.BitList.ListReading.{list_refused, list_entries}
use Rattle.bitset.specs.Judge.{mixed_at, on_mixing, bitset_parts_reading, bitset_reading}
use Rattle.normal.specs.Normal.{normalised}
use Rattle.normal.specs.Claims.{Accepts}
use Rattle.normal.proofs.Demand3.{accepted-exactly}
use Rattle.normal.proofs.Fits.{never, pass, same-bitset, identified-below}
use Rattle.boxes.specs.Box.{Box}
use Rattle.boxes.specs.declared.Call.{Call}
use Rattle.admission.specs.Commands.{command_of}
use Rattle.response.specs.Answer.{Outcome}
use Rattle.response.specs.declared.Kind.TheVariants.{Done}
use Rattle.handler.specs.Bytes.{Stored, bytes_outcome}
use Rattle.demands.specs.Call.{message_of}
use Rattle.demands.specs.Request.{is_set}
use Rattle.demands.specs.Parts.{StandsIn}
use Rattle.demands.specs.Stored.{DoneSetStored}
use Rattle.demands.specs.Says.{Stands, Lacks, payload_in, SlotIs, BitPartsAre, BitsetPartsAre, IsNameOf, Means, BitSays, Lists, FromBitmap, BitsetOpened, CompactSays, ListSays, BitsetSays, RequestSays}
use Rattle.demands.specs.Says.SlotIs.{last_one, no_one}
use Rattle.demands.specs.Says.Lists.{no_more, one_bit}
use Rattle.demands.specs.Says.BitsetSays.{compact_masked, compact_nomask, list_masked, list_nomask}
use Rattle.demands.proofs.NameOf.{found-names}
use Rattle.demands.proofs.Parts.{front_length, three-parts, five-parts}
use Rattle.demands.proofs.Stored as S

-- the number of 32 bits in a slot that is there
number_in : (s : List ℕ) (slot : Slot) → slot.present ≡ true → slot_number s slot ≡ u32_at (payload_in s slot) 0
number_in s slot h = sym (slot-there s slot (payload_in s slot) (u32_at (payload_in s slot) 0) h refl refl)

-- the slot of a type in a walk that is whole
slot_of : (p : List Rule) (s : List ℕ) (from : ℕ) → (walked p s from).stop ≡ Whole → (kind : ℕ) → kind < 8
    → SlotIs kind (attributes s from) (get_or (walked p s from).slots kind absent)
slot_of p s from whole kind l = rw (slot_is p s from whole kind l) (go (last-is kind (attributes s from)))
  where
    go : ((last_of_type kind absent (attributes s from) ≡ absent) × None kind (attributes s from))
        ⊎ ((a : ℕ) × (e : ℕ) × (last_of_type kind absent (attributes s from) ≡ found a e) × LastIs kind a e (attributes s from))
        → SlotIs kind (attributes s from) (last_of_type kind absent (attributes s from))
    go (inl (q, n)) = rw q (no_one n)
    go (inr (a, e, q, i)) = rw q (last_one i)

pub bit-parts-are : (s : List ℕ) (from : ℕ) → (walked bit_policy s from).stop ≡ Whole → BitPartsAre (attributes s from) (bit_parts (walked bit_policy s from).slots)
unfolding bit_parts
bit-parts-are s from w =
    let slot = slot_of bit_policy s from w in
    record { index = slot 1 (omega arith); name = slot 2 (omega arith); on = slot 3 (omega arith) }

pub bitset-parts-are : (s : List ℕ) (from : ℕ) → (walked bitset_policy s from).stop ≡ Whole
    → BitsetPartsAre (attributes s from) (bitset_parts (walked bitset_policy s from).slots)
unfolding bitset_parts
bitset-parts-are s from w =
    let slot = slot_of bitset_policy s from w in
    record { nomask = slot 1 (omega arith); size = slot 2 (omega arith); bits = slot 3 (omega arith); value = slot 4 (omega arith); mask = slot 5 (omega arith) }

-- one BIT: what INDEX and NAME say, each on its own
module _ (s names : List ℕ) (parts : BitParts) where
  index-stands : (k : ℕ) → bit_by_index s (count names) parts.index ≡ Ok (Some k)
      → Stands parts.index × (k ≡ u32_at (payload_in s parts.index) 0)
  unfolding bit_by_index
  index-stands k = go parts.index.present refl (leb (count names) (slot_number s parts.index))
    where
      go : (t : Bool) → parts.index.present ≡ t → (u : Bool)
          → cond t (cond u (Err (PastLength (parts.index.start - 4))) (Ok (Some (slot_number s parts.index)))) (Ok O.None) ≡ Ok (Some k)
          → Stands parts.index × (k ≡ u32_at (payload_in s parts.index) 0)
      go true h true e = absurd (let z : ◌≡◌ {A = ℕ} 0 1 = cc in omega arith)
      go true h false e = let i : k ≡ slot_number s parts.index = cc in (h, i ∙ number_in s parts.index h)
      go false h u e = absurd (let z : ◌≡◌ {A = ℕ} 0 1 = cc in omega arith)

  index-lacks : bit_by_index s (count names) parts.index ≡ Ok O.None → Lacks parts.index
  unfolding bit_by_index
  index-lacks = go parts.index.present (leb (count names) (slot_number s parts.index))
    where
      go : (t u : Bool)
          → cond t (cond u (Err (PastLength (parts.index.start - 4))) (Ok (Some (slot_number s parts.index)))) (Ok O.None) ≡ Ok O.None → t ≡ false
      go true true e = absurd (let z : ◌≡◌ {A = ℕ} 0 1 = cc in omega arith)
      go true false e = absurd (let z : ◌≡◌ {A = ℕ} 0 1 = cc in omega arith)
      go false u e = refl

  abbrev named : List ℕ
  named = payload_in s parts.name

  name-stands : (k : ℕ) → bit_by_name s names parts.name ≡ Ok (Some k) → Stands parts.name × IsNameOf names k named
  unfolding bit_by_name
  name-stands k = go parts.name.present refl (lookup names named).bit refl
    where
      go : (t : Bool) → parts.name.present ≡ t → (u : Option ℕ) → (lookup names named).bit ≡ u
          → cond t (on_lookup u (parts.name.start - 4)) (Ok O.None) ≡ Ok (Some k)
          → Stands parts.name × IsNameOf names k named
      go true h (Some j) q e = let i : k ≡ j = cc in (h, rw i (found-names names named j q))
      go true h O.None q e = absurd (let z : ◌≡◌ {A = ℕ} 0 1 = cc in omega arith)
      go false h u q e = absurd (let z : ◌≡◌ {A = ℕ} 0 1 = cc in omega arith)

  name-lacks : bit_by_name s names parts.name ≡ Ok O.None → Lacks parts.name
  unfolding bit_by_name
  name-lacks = go parts.name.present (lookup names named).bit
    where
      go : (t : Bool) (u : Option ℕ) → cond t (on_lookup u (parts.name.start - 4)) (Ok O.None) ≡ Ok O.None → t ≡ false
      go true (Some j) e = absurd (let z : ◌≡◌ {A = ℕ} 0 1 = cc in omega arith)
      go true O.None e = absurd (let z : ◌≡◌ {A = ℕ} 0 1 = cc in omega arith)
      go false u e = refl

  parts-mean : (at k : ℕ) → identified s names at parts ≡ Ok (Some k) → Means s names parts k
  unfolding identified
  parts-mean at k e = go (identified-below s names at parts k e) (combined-said _ k _ _ e)
    where
      go : k < count names → Said k (bit_by_index s (count names) parts.index) (bit_by_name s names parts.name) → Means s names parts k
      go l (both_say x y) =
          let i = index-stands k x in
          record { below = l; given = inl i.0; by_index = λ t. i.1; by_name = λ t. (name-stands k y).1 }
      go l (index-says x y) =
          let i = index-stands k x in
          record { below = l; given = inl i.0; by_index = λ t. i.1; by_name = λ t. absurd (clash t (name-lacks y)) }
      go l (name-says x y) =
          let i = name-stands k y in
          record { below = l; given = inr i.0; by_index = λ t. absurd (clash t (index-lacks x)); by_name = λ t. i.1 }

-- one BIT: what is read of it is what its parts mean, and it is right as a whole
module _ (s names : List ℕ) (start end : ℕ) where
  abbrev bit : List ℕ
  bit = part_of s 0 end

  abbrev bit-part : BitParts
  bit-part = bit_parts (walked bit_policy bit start).slots

  pub bit-read : (b : Bit) → bit_reading bit names start ≡ Ok b
      → ((walked bit_policy bit start).stop ≡ Whole) × Means bit names bit-part b.number × (b.on ≡ bit-part.on.present)
  unfolding bit_parts_reading
  bit-read b e =
      go (walked bit_policy bit start).stop refl (identified bit names (start - 4) bit-part) refl (sym (by-walk bit names start) ∙ e)
    where
      same : (x y : Bit) → ◌≡◌ {A = Result Bit Refusal} (Ok x) (Ok y) → x ≡ y
      same x y q = cc

      go : (t : Stop) → (walked bit_policy bit start).stop ≡ t → (l : Identity) → identified bit names (start - 4) bit-part ≡ l
          → on_stop t Err (and_then l (on_identity (start - 4) bit-part.on.present)) ≡ Ok b
          → ((walked bit_policy bit start).stop ≡ Whole) × Means bit names bit-part b.number × (b.on ≡ bit-part.on.present)
      go (At f at) w l q e = absurd (let z : ◌≡◌ {A = ℕ} 0 1 = cc in omega arith)
      go Whole w (Err r) q e = absurd (let z : ◌≡◌ {A = ℕ} 0 1 = cc in omega arith)
      go Whole w (Ok O.None) q e = absurd (let z : ◌≡◌ {A = ℕ} 0 1 = cc in omega arith)
      go Whole w (Ok (Some j)) q e =
          let is = same (record { number = j; on = bit-part.on.present }) b e in
          (w, parts-mean bit names bit-part (start - 4) b.number (q ∙ ap (λ (x : Bit). Ok (Some x.number)) is), ap (λ (x : Bit). x.on) (sym is))

  pub bit-means : (b : Bit) → bit_reading bit names start ≡ Ok b → Means bit names bit-part b.number
  bit-means b e = (bit-read b e).1

  bit-says : end ≤ length s → (b : Bit) → bit_reading bit names start ≡ Ok b → BitSays s names start end (record { bit = b.number; on = b.on })
  unfolding bit_parts
  bit-says hi b e =
      let r = bit-read b e in
      record {
        parts = bit-part;
        whole = r.0;
        are = bit-parts-are bit start r.0;
        inside = rw (front_length s end hi) at (three-parts bit_policy bit start r.0);
        number = r.1;
        on = r.2;
      }

-- the BITs
module _ (s names : List ℕ) where
  lists-say : (before at : ℕ) → before ≤ at → at < before + 4 → (xs : Attributes) → Apart s at xs → Passed bits_policy s xs done
      → (es : List Listed) → bits_reading s names xs ≡ list_entries es → Lists s names before es
  unfolding bits_reading
  lists-say before at lo hi done q here es e = let w : es ≡ [] = cc in rw w (no_more {at = before} (omega (arith, q)))
  lists-say before at lo hi (broken _) q never es e = elim never [ ]
  lists-say before at lo hi (attribute k b a z rest) q (next right others) es e =
      go (bit_reading (part_of s 0 z) names a) refl (bits_reading s names rest) refl e
      (λ fs h. lists-say z q.5.0 q.5.1 q.5.4 rest q.5.3 others fs h)
    where
      stands : StandsIn before (length s) a z
      stands = let i = q.0 in (omega arith, omega arith, q.2, q.3)

      long : z ≡ a - 4 + u16_at s (a - 4)
      long = let i : a - 4 ≡ at = let j = q.0 in omega arith in q.1 ∙ ap (λ (n : ℕ). n + u16_at s n) (sym i)

      go : (v : Result Bit Refusal) → bit_reading (part_of s 0 z) names a ≡ v → (x : ListReading) → bits_reading s names rest ≡ x → on_bit v x ≡ list_entries es
          → ((fs : List Listed) → bits_reading s names rest ≡ list_entries fs → Lists s names z fs) → Lists s names before es
      go (Err r) i x u e f = absurd (let c : ◌≡◌ {A = ℕ} 0 1 = cc in omega arith)
      go (Ok b) i (list_refused r) u e f = absurd (let c : ◌≡◌ {A = ℕ} 0 1 = cc in omega arith)
      go (Ok b) i (list_entries fs) u e f =
          let entry : Listed = record { bit = b.number; on = b.on } in
          let w : es ≡ entry ∷ fs = cc in
          rw w (one_bit a z entry stands long (bit-says s names a z q.3 b i) (f fs u))

-- a bit list
module _ (s : List ℕ) (from : ℕ) (names : List ℕ) (parts : BitsetParts) (opened : BitsetOpened s from parts) (b : Bitset) where
  list-says : parts.bits.present ≡ true → parts.value.present ≡ false → parts.mask.present ≡ false → list_reading s names parts ≡ accepted b
      → BitsetSays s from names b
  unfolding list_reading
  list-says there no_value no-mask =
      go (walked bits_policy p parts.bits.start).stop refl parts.nomask.present refl (bits_reading p names xs) refl
    where
      p : List ℕ
      p = part_of s 0 parts.bits.end

      xs : Attributes
      xs = attributes p parts.bits.start

      says : (walked bits_policy p parts.bits.start).stop ≡ Whole → (es : List Listed) → bits_reading p names xs ≡ list_entries es → ListSays s names parts es
      says w es q =
          let passed = whole-passed bits_policy p xs (sym (stop_is bits_policy p parts.bits.start) ∙ w) in
          record {
            has-bits = there;
            no_value = no_value;
            no-mask = no-mask;
            whole = w;
            lists = lists-say p names parts.bits.start parts.bits.start (omega arith) (omega arith) xs (apart p parts.bits.start) passed es q;
          }

      go : (t : Stop) → (walked bits_policy p parts.bits.start).stop ≡ t → (u : Bool) → parts.nomask.present ≡ u
          → (x : ListReading) → bits_reading p names xs ≡ x → on_stop t refused (as_bitset u x) ≡ accepted b → BitsetSays s from names b
      go (At f at) w u h x q e = absurd (never _ b e)
      go Whole w true h (list_refused r) q e = absurd (never r b e)
      go Whole w false h (list_refused r) q e = absurd (never r b e)
      go Whole w true h (list_entries es) q e = rw (same-bitset (nomask_list es) b e) (list_nomask parts opened h (says w es q))
      go Whole w false h (list_entries es) q e = rw (same-bitset (masked_list es) b e) (list_masked parts opened h (says w es q))

-- the bits of the words in a bitmap that holds SIZE/32 rounded up
from-bitmap : (bitmap : List ℕ) (size : ℕ) → ltb (length bitmap / 4) (words_for size) ≡ false → FromBitmap size (has (words_in bitmap)) bitmap
unfolding has
from-bitmap bitmap size enough i l =
    let h = ltb-false (length bitmap / 4) (words_for size) enough in
    ap (λ (w : ℕ). test w (i % 32)) (sym (word_in bitmap (i / 32) (omega arith)))

-- a compact bitset
module _ (s : List ℕ) (from : ℕ) (names : List ℕ) (parts : BitsetParts) (opened : BitsetOpened s from parts) (b : Bitset) where
  abbrev size : ℕ
  size = slot_number s parts.size

  abbrev value : List ℕ
  value = payload_in s parts.value

  abbrev mask : List ℕ
  mask = payload_in s parts.mask

  compact : parts.bits.present ≡ false → parts.size.present ≡ true → parts.value.present ≡ true → ltb (length value / 4) (words_for size) ≡ false
      → CompactSays s parts size (has (words_in value))
  compact no_bits has-size has_value enough =
      record {
        no_bits = no_bits;
        has-size = has-size;
        has_value = has_value;
        size_is = number_in s parts.size has-size;
        value-is = from-bitmap value size enough;
      }

  module _ (no_bits : parts.bits.present ≡ false) (has-size : parts.size.present ≡ true) (has_value : parts.value.present ≡ true) where
    nomask-says : parts.nomask.present ≡ true → parts.mask.present ≡ false → nomask_reading s (count names) size parts ≡ accepted b
        → BitsetSays s from names b
    unfolding nomask_reading
    nomask-says there no-mask e =
        let f = has (words_in value) in
        let last : Reading = accepted (nomask_bitmap size f) in
        let then : Reading = cond (some_past f (count names) size) (refused (PastLength (parts.value.start - 4))) last in
        let one = pass (ltb (length value / 4) (words_for size)) (ShortBitmap (parts.value.start - 4)) then b e in
        let two = pass (some_past f (count names) size) (PastLength (parts.value.start - 4)) last b one.1 in
        rw (same-bitset (nomask_bitmap size f) b two.1) (compact_nomask parts opened there (compact no_bits has-size has_value one.0) no-mask)

    masked-says : parts.nomask.present ≡ false → (nest : ℕ) → masked_reading s nest (count names) size parts ≡ accepted b → BitsetSays s from names b
    unfolding masked_reading
    masked-says none nest e =
        let f = has (words_in mask) in
        let last : Reading = accepted (masked_bitmap size (has (words_in value)) f) in
        let past : Reading = cond (some_past f (count names) size) (refused (PastLength (parts.mask.start - 4))) last in
        let short : Reading = cond (ltb (length mask / 4) (words_for size)) (refused (ShortBitmap (parts.mask.start - 4))) past in
        let rest : Reading = cond (ltb (length value / 4) (words_for size)) (refused (ShortBitmap (parts.value.start - 4))) short in
        let one = pass (not parts.mask.present) (MissingIn 5 nest) rest b e in
        let two = pass (ltb (length value / 4) (words_for size)) (ShortBitmap (parts.value.start - 4)) short b one.1 in
        let three = pass (ltb (length mask / 4) (words_for size)) (ShortBitmap (parts.mask.start - 4)) past b two.1 in
        let four = pass (some_past f (count names) size) (PastLength (parts.mask.start - 4)) last b three.1 in
        rw (same-bitset (masked_bitmap size (has (words_in value)) f) b four.1)
        (compact_masked parts opened none (compact no_bits has-size has_value two.0) (not-false parts.mask.present one.0)
        (from-bitmap mask size three.0))

  compact-says : parts.bits.present ≡ false → (parts.nomask.present ≡ true → parts.mask.present ≡ false) → (nest : ℕ)
      → compact_reading s nest (count names) parts ≡ accepted b → BitsetSays s from names b
  unfolding compact_reading
  compact-says no_bits unmixed nest e = go parts.nomask.present refl two.1
    where
      rest : Reading
      rest = cond parts.nomask.present (nomask_reading s (count names) size parts) (masked_reading s nest (count names) size parts)

      one : (not parts.size.present ≡ false) × (cond (not parts.value.present) (refused (MissingIn 4 nest)) rest ≡ accepted b)
      one = pass (not parts.size.present) (MissingIn 2 nest) (cond (not parts.value.present) (refused (MissingIn 4 nest)) rest) b e

      two : (not parts.value.present ≡ false) × (rest ≡ accepted b)
      two = pass (not parts.value.present) (MissingIn 4 nest) rest b one.1

      has-size : parts.size.present ≡ true
      has-size = not-false parts.size.present one.0

      has_value : parts.value.present ≡ true
      has_value = not-false parts.value.present two.0

      go : (t : Bool) → parts.nomask.present ≡ t
          → cond t (nomask_reading s (count names) size parts) (masked_reading s nest (count names) size parts) ≡ accepted b → BitsetSays s from names b
      go true h q = nomask-says no_bits has-size has_value h (unmixed h) q
      go false h q = masked-says no_bits has-size has_value h nest q

-- by the forms that are not mixed
forms-say : (s : List ℕ) (from : ℕ) (names : List ℕ) (parts : BitsetParts) → BitsetOpened s from parts → (b : Bitset)
    → bitset_parts_reading s (from - 4) names parts ≡ accepted b → BitsetSays s from names b
unfolding bitset_parts_reading mixed_at
forms-say s from names parts opened b =
    go parts.bits.present refl parts.value.present refl parts.mask.present refl parts.nomask.present refl
  where
    list : Reading
    list = list_reading s names parts

    form : Reading
    form = compact_reading s (from - 4) (count names) parts

    go : (t : Bool) → parts.bits.present ≡ t → (v : Bool) → parts.value.present ≡ v → (m : Bool) → parts.mask.present ≡ m
        → (n : Bool) → parts.nomask.present ≡ n
        → on_mixing
        (cond (t && v) (Some (parts.value.start - 4))
        (cond (t && m) (Some (parts.mask.start - 4))
        (cond (n && m) (Some (parts.mask.start - 4)) O.None)))
        (cond t list form) ≡ accepted b → BitsetSays s from names b
    go true et true ev m em n en e = absurd (never _ b e)
    go true et false ev true em n en e = absurd (never _ b e)
    go true et false ev false em true en e = list-says s from names parts opened b et ev em e
    go true et false ev false em false en e = list-says s from names parts opened b et ev em e
    go false et v ev true em true en e = absurd (never _ b e)
    go false et v ev true em false en e = compact-says s from names parts opened b et (λ h. absurd (clash h en)) (from - 4) e
    go false et v ev false em true en e = compact-says s from names parts opened b et (λ h. em) (from - 4) e
    go false et v ev false em false en e = compact-says s from names parts opened b et (λ h. em) (from - 4) e

pub accepted-says : (s : List ℕ) (from : ℕ) (names : List ℕ) (b : Bitset) → bitset_reading s from names ≡ accepted b → BitsetSays s from names b
unfolding bitset_reading bitset_parts
accepted-says s from names b = go (walked bitset_policy s from).stop refl
  where
    parts : BitsetParts
    parts = bitset_parts (walked bitset_policy s from).slots

    go : (t : Stop) → (walked bitset_policy s from).stop ≡ t → on_stop t refused (bitset_parts_reading s (from - 4) names parts) ≡ accepted b
        → BitsetSays s from names b
    go (At f at) w e = absurd (never _ b e)
    go Whole w e = forms-say s from names parts
        (record {
          whole = w;
          are = bitset-parts-are s from w;
          inside = five-parts bitset_policy s from w;
        }) b e

-- of a call of the exported handler
module _ (box : Box) (stored : Stored) (call : Call) (datagram : List ℕ) (room : ℕ) where
  abbrev o : Outcome Stored
  o = bytes_outcome box stored call datagram room

  abbrev m : List ℕ
  m = message_of datagram call.position

  abbrev h : MessageHeader
  h = message_header datagram call.position

  pub set_says : Bytes stored.settings → o.response.kind ≡ Done → is_set (command_of (byte_at m 16)) ≡ true
      → (d : DoneSetStored box stored call m h o) × RequestSays box m d.done.named d.done.bits
  set_says bytes kind-of request =
      let d = S.effect box stored call datagram room bytes kind-of request in (d, accepted-says _ _ _ d.done.bits d.done.carries)

pub normal-says : (contents names : List ℕ) (room : ℕ) → (normalised contents names room).number ≡ 0
    → (a : Accepts contents names room) × BitsetSays contents 0 names a.bitset
normal-says contents names room answer =
    let a = (accepted-exactly contents names room).0 answer in (a, accepted-says contents 0 names a.bitset a.reads)

-- bit r of a byte that stands at bit k of a number
byte_of : (x k m b r : ℕ) → 2 ^ k ≡ m → x / m % 256 ≡ b → r < 8 → test x (k + r) ≡ test b r
byte_of x k m b r h e l =
    ap (λ (y : ℕ). eqb (y % 2) 1) (sym (shr-shr x k r)) ∙ ap (λ (y : ℕ). test (x / y) r) h
    ∙ sym (test_low 8 (x / m) r l) ∙ ap (λ (y : ℕ). test y r) e

-- bit r of byte c of a word
module _ (s : List ℕ) (small : Bytes s) (p r : ℕ) (l : r < 8) where
  word_byte : (c : ℕ) → c < 4 → test (u32_at s p) (c * 8 + r) ≡ test (get_or s (p + c) 0) r
  unfolding u32_at
  word_byte zero h =
      let at : p ≡ p + 0 = omega arith in
      byte_of _ 0 1 (get_or s p 0) r refl (omega (arith, small p, small (p + 1), small (p + 2), small (p + 3))) l
      ∙ ap (λ (n : ℕ). test (get_or s n 0) r) at
  word_byte (suc zero) h = byte_of _ 8 256 (get_or s (p + 1) 0) r refl (omega (arith, small p, small (p + 1), small (p + 2), small (p + 3))) l
  word_byte (suc (suc zero)) h = byte_of _ 16 65536 (get_or s (p + 2) 0) r refl (omega (arith, small p, small (p + 1), small (p + 2), small (p + 3))) l
  word_byte (suc (suc (suc zero))) h =
      byte_of _ 24 16777216 (get_or s (p + 3) 0) r refl (omega (arith, small p, small (p + 1), small (p + 2), small (p + 3))) l
  word_byte (suc (suc (suc (suc c)))) h = absurd (omega arith)

-- a part of bytes is bytes
part_bytes : (s : List ℕ) → Bytes s → (start end : ℕ) → Bytes (part_of s start end)
unfolding part_of
part_bytes s small start end i = go (leb start end && leb end (length s))
  where
    n : ℕ
    n = end - start

    go : (t : Bool) → get_or (cond t (take n (drop start s)) []) i 0 < 256
    go false = omega arith
    go true =
        ⊎_elim
        (λ (q : i < n). rw (get_or-take n (drop start s) i 0 q ∙ get_or-drop start s i 0) (small (start + i)))
        (λ (q : n ≤ i). let over : length (take n (drop start s)) ≤ i = omega (arith, length-take n (drop start s)) in
        rw (get_or-eq_default (take n (drop start s)) 0 over) (omega arith))
        (lt-or-ge i n)

pub byte-bit : (s : List ℕ) → Bytes s → (slot : Slot) (size : ℕ) (f : ℕ → Bool) → FromBitmap size f (payload_in s slot)
    → (i : ℕ) → i < size → f i ≡ test (get_or (payload_in s slot) (i / 8) 0) (i % 8)
byte-bit s small slot size f from i l =
    let p = i / 32 * 4 in
    let c = i % 32 / 8 in
    let bits : i % 32 ≡ c * 8 + i % 8 = omega arith in
    let byte : i / 8 ≡ p + c = omega arith in
    from i l ∙ ap (test (u32_at (payload_in s slot) p)) bits
    ∙ word_byte (payload_in s slot) (part_bytes s small slot.start slot.end) p (i % 8) (omega arith) c (omega arith)
    ∙ ap (λ (n : ℕ). test (get_or (payload_in s slot) n 0) (i % 8)) (sym byte)
