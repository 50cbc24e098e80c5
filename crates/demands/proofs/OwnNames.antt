-- Where a bitset is accepted, every BIT that carries an index and a name carries the name of that index's entry.
--     accepted-own-names   of every bitset that is accepted
--     set-own-names        of the bitset that a done SET of the exported handler carries out
--     normal-own-names     of contents that the normaliser answers by 0
--     name-tests           what 21 and 23 test, in plain bytes
use Rattle.std.specs.Prelude.{Option, Some, Result, Ok, Err, is_none}
use Rattle.std.specs.Prelude as O
use Rattle.refusal.specs.declared.Refusal.{Refusal}
use Rattle.bitset_bit.specs.declared.Bit.{Bit}
use Prim.Native.Nat.{ℕ, ◌-◌}
use mathlib.Core.Path.{◌≡◌, refl, ap, ◌∙◌}
use mathlib.Core.List.{List}
use mathlib.Core.Bool.{Bool, true, false, not, cond}
use lib.Dec.{eqb}
use lib.ListN.{get_or}
use mathlib.Core.Logic.{inl, inr}
use native.Mathlib.Omega.{arith}
use borrow.Author.Tests.{eq-eqb, ne_eqb, eqb-true, not-false}
use Rattle.basics.specs.Numbers.{byte_at, u32_at}
use Rattle.basics.proofs.Truth.{clash, true_of}
use Rattle.bits.specs.Change.{Listed}
use Rattle.word_bytes.specs.Bytes.{Bytes}
use Rattle.entries.specs.Entry.{count}
use Rattle.names.specs.Rule.{names_right}
use Rattle.names.specs.Search.{found_at, lookup}
use Rattle.names.specs.declared.Lookup.{Lookup}
use Rattle.netlink_attributes.specs.Attributes.{Attributes, attributes, part_of}
use Rattle.netlink_attributes.specs.Attributes.Attributes.{done, broken, attribute}
use Rattle.netlink.specs.Walk.{absent, found, last_of_type, walked, slot_number}
use Rattle.netlink.specs.Claims.{None, LastIs}
use Rattle.netlink.specs.declared.walk.Stop.TheVariants.{Whole}
use Rattle.netlink.proofs.walk.Meaning.{slot_is}
use Rattle.netlink.specs.declared.walk.Slot.{Slot}
use Rattle.netlink_headers.specs.Headers.{message_header}
use Rattle.bitset_form.specs.Policies.{bitset_policy, bit_policy, bits_policy}
use Rattle.bitset_form.specs.Parts.{bitset_parts, bit_parts}
use Rattle.bitset_form.specs.declared.parts.BitsetParts.{BitsetParts}
use Rattle.bitset_form.specs.Bitset.{Bitset}
use Rattle.bitset_form.specs.Bitset.Reading.{accepted}
use Rattle.bitset_compact.specs.Compact.{compact_reading}
use Rattle.bitset_bit.specs.Bit.{bit_reading}
use Rattle.bitset_list.specs.BitList.{ListReading, on_bit, bits_reading, as_bitset, list_reading}
use Rattle.bitset_list.specs.BitList.ListReading.{list_refused, list_entries}
use Rattle.bitset.specs.Judge.{mixed_at, on_mixing, bitset_parts_reading, bitset_reading}
use Rattle.normal.specs.Normal.{normalised}
use Rattle.normal.proofs.Demand3.{accepted-exactly}
use Rattle.normal.proofs.Fits.{never, pass-stop}
use Rattle.boxes.specs.Box.{Box}
use Rattle.boxes.specs.declared.Call.{Call}
use Rattle.admission.specs.Commands.{command_of}
use Rattle.response.specs.declared.Kind.TheVariants.{Done}
use Rattle.handler.specs.Bytes.{Stored, bytes_outcome}
use Rattle.demands.specs.Call.{message_of}
use Rattle.demands.specs.Request.{is_set}
use Rattle.demands.specs.Stored.{DoneSetStored}
use Rattle.demands.specs.Bitset.{unknown_name, is_other, two_bits}
use Rattle.demands.specs.BoxFault.{Exactly}
use Rattle.demands.specs.Says.{payload_in, IsNameOf, Means}
use Rattle.demands.specs.OwnNames.{Among, OwnName, BitOwnName, EachOwnName, ListOwnNames, OwnNames, RequestOwnNames, NameTests}
use Rattle.demands.specs.OwnNames.Among.{first, later}
use Rattle.demands.proofs.NameOf.{found-names, name-found}
use Rattle.demands.proofs.Says.{bit-read}
use Rattle.demands.proofs.Stored as S

-- the last attribute of a type is the slot of its type
none_left : (kind : ℕ) (slot : Slot) (xs : Attributes) → None kind xs → last_of_type kind slot xs ≡ slot
unfolding last_of_type
none_left kind slot done n = refl
none_left kind slot (broken at) n = refl
none_left kind slot (attribute k b a e rest) n =
    ap (λ (t : Bool). last_of_type kind (cond t (found a e) slot) rest) (ne_eqb k kind n.0) ∙ none_left kind slot rest n.1

last-slot : (kind : ℕ) (slot : Slot) (start end : ℕ) (xs : Attributes) → LastIs kind start end xs → last_of_type kind slot xs ≡ found start end
unfolding last_of_type
last-slot kind slot start end done l = absurd l
last-slot kind slot start end (broken at) l = absurd l
last-slot kind slot start end (attribute k b a e rest) (inl l) =
    ap (λ (t : Bool). last_of_type kind (cond t (found a e) slot) rest) (eq-eqb k kind l.0) ∙ none_left kind (found a e) rest l.3
    ∙ ap (λ (x : ℕ). found x e) l.1 ∙ ap (found start) l.2
last-slot kind slot start end (attribute k b a e rest) (inr l) = last-slot kind (cond (eqb k kind) (found a e) slot) start end rest l

same_name : (names : List ℕ) {n m : ℕ} {p q : List ℕ} → n ≡ m → p ≡ q → IsNameOf names n p → IsNameOf names m q
same_name names x y h = rw (x, y) at h

own_name : (s names : List ℕ) (from number : ℕ) → (walked bit_policy s from).stop ≡ Whole → Means s names (bit_parts (walked bit_policy s from).slots) number
    → OwnName s names (attributes s from)
unfolding bit_parts
own_name s names from number whole means a e b z index name =
    let i : get_or (walked bit_policy s from).slots 1 absent ≡ found a e = slot_is bit_policy s from whole 1 (omega arith) ∙ last-slot 1 absent a e (attributes s from) index in
    let n : get_or (walked bit_policy s from).slots 2 absent ≡ found b z = slot_is bit_policy s from whole 2 (omega arith) ∙ last-slot 2 absent b z (attributes s from) name in
    same_name names
    (means.by_index (ap (λ (x : Slot). x.present) i) ∙ ap (λ (x : Slot). u32_at (payload_in s x) 0) i)
    (ap (payload_in s) n)
    (means.by_name (ap (λ (x : Slot). x.present) n))

-- the BITs of a list
module _ (s names : List ℕ) where
  -- a BIT that stands before others, and those others, where all are read
  bit-then : (v : Result Bit Refusal) (x : ListReading) (es : List Listed) → on_bit v x ≡ list_entries es
      → ((b : Bit) × (v ≡ Ok b)) × ((fs : List Listed) × (x ≡ list_entries fs))
  bit-then (Err r) x es e = absurd (let c : ◌≡◌ {A = ℕ} 0 1 = cc in omega arith)
  bit-then (Ok b) (list_refused r) es e = absurd (let c : ◌≡◌ {A = ℕ} 0 1 = cc in omega arith)
  bit-then (Ok b) (list_entries fs) es e = ((b, refl), (fs, refl))

  each-own-name : (start end : ℕ) {xs : Attributes} → Among start end xs → (es : List Listed) → bits_reading s names xs ≡ list_entries es → BitOwnName s names start end
  unfolding bits_reading
  each-own-name start end (first {kind} {bits} {rest}) es e =
      let read = (bit-then (bit_reading (part_of s 0 end) names start) (bits_reading s names rest) es e).0 in
      let bit = bit-read s names start end read.0 read.1 in
      own_name (part_of s 0 end) names start read.0.number bit.0 bit.1
  each-own-name start end (later {kind} {bits} {a} {z} {rest} among) es e =
      let others = (bit-then (bit_reading (part_of s 0 z) names a) (bits_reading s names rest) es e).1 in
      each-own-name start end among others.0 others.1

list-own-names : (s names : List ℕ) (parts : BitsetParts) (b : Bitset) → list_reading s names parts ≡ accepted b → ListOwnNames s names parts
unfolding list_reading
list-own-names s names parts b e there =
    go parts.nomask.present (bits_reading p names xs) refl (pass-stop (walked bits_policy p parts.bits.start).stop _ b e)
  where
    p : List ℕ
    p = part_of s 0 parts.bits.end

    xs : Attributes
    xs = attributes p parts.bits.start

    go : (t : Bool) (x : ListReading) → bits_reading p names xs ≡ x → as_bitset t x ≡ accepted b → EachOwnName p parts.bits.start names
    go true (list_refused r) q e = absurd (never r b e)
    go false (list_refused r) q e = absurd (never r b e)
    go true (list_entries es) q e = λ start end among. each-own-name p names start end among es q
    go false (list_entries es) q e = λ start end among. each-own-name p names start end among es q

pub accepted-own-names : (s : List ℕ) (from : ℕ) (names : List ℕ) (b : Bitset) → bitset_reading s from names ≡ accepted b → OwnNames s from names
unfolding bitset_reading bitset_parts_reading
accepted-own-names s from names b e there =
    go (mixed_at parts) parts.bits.present there (pass-stop (walked bitset_policy s from).stop _ b e) there
  where
    parts : BitsetParts
    parts = bitset_parts (walked bitset_policy s from).slots

    go : (m : Option ℕ) (t : Bool) → t ≡ true → on_mixing m (cond t (list_reading s names parts) (compact_reading s (from - 4) (count names) parts)) ≡ accepted b
        → ListOwnNames s names parts
    go (Some at) t h e = absurd (never _ b e)
    go O.None true h e = list-own-names s names parts b e
    go O.None false h e = absurd (clash h refl)

-- of a call of the exported handler
module _ (box : Box) (stored : Stored) (call : Call) (datagram : List ℕ) (room : ℕ) where
  pub set-own-names : Bytes stored.settings → (bytes_outcome box stored call datagram room).response.kind ≡ Done
      → is_set (command_of (byte_at (message_of datagram call.position) 16)) ≡ true
      → (d : DoneSetStored box stored call (message_of datagram call.position) (message_header datagram call.position) (bytes_outcome box stored call datagram room))
      × RequestOwnNames box (message_of datagram call.position) d.done.named
  set-own-names bytes kind-of request =
      let d = S.effect box stored call datagram room bytes kind-of request in (d, accepted-own-names _ _ _ d.done.bits d.done.carries)

pub normal-own-names : (contents names : List ℕ) (room : ℕ) → (normalised contents names room).number ≡ 0 → OwnNames contents 0 names
normal-own-names contents names room answer =
    let a = (accepted-exactly contents names room).0 answer in accepted-own-names contents 0 names a.bitset a.reads

-- the tests of 21 and 23
module _ (s names : List ℕ) (right : names_right names ≡ true) (index name : Slot) where
  abbrev named : List ℕ
  named = payload_in s name

  found-at : (entry : ℕ) → IsNameOf names entry named → lookup names named ≡ found_at names named entry
  found-at entry is = name-found names named right entry is

  unknown-exactly : Exactly (unknown_name s names name ≡ true) ((entry : ℕ) → IsNameOf names entry named → ⊥)
  unfolding unknown_name
  unknown-exactly = (
    λ u entry is. clash u (ap (λ (l : Lookup). is_none l.bit) (found-at entry is)),
    λ none. go none (lookup names named).bit refl,
  )
    where
      go : ((entry : ℕ) → IsNameOf names entry named → ⊥) → (o : Option ℕ) → (lookup names named).bit ≡ o → is_none (lookup names named).bit ≡ true
      go none O.None e = ap is_none e
      go none (Some k) e = absurd (none k (found-names names named k e))

  two-bits-exactly : unknown_name s names name ≡ false
      → Exactly (two_bits s names index name ≡ true) (IsNameOf names (slot_number s index) named → ⊥)
  unfolding unknown_name two_bits
  two-bits-exactly known = (
    λ t is. clash t (ap (λ (l : Lookup). is_other number l.bit) (found-at number is) ∙ ap not (eq-eqb number number refl)),
    λ other. go other (lookup names named).bit refl,
  )
    where
      number : ℕ
      number = slot_number s index

      go : (IsNameOf names number named → ⊥) → (o : Option ℕ) → (lookup names named).bit ≡ o → is_other number (lookup names named).bit ≡ true
      go other O.None e = absurd (clash (ap is_none e) known)
      go other (Some k) e =
          ap (is_other number) e
          ∙ true_of (not (eqb number k)) (λ q. other (rw (eqb-true number k (not-false (eqb number k) q)) (found-names names named k e)))

  -- a NAME that no entry equals, which 21 refuses before: INDEX is compared with 0
  pub two-bits-unknown : unknown_name s names name ≡ true → two_bits s names index name ≡ not (eqb (slot_number s index) 0)
  unfolding unknown_name two_bits
  two-bits-unknown unknown = go (lookup names named).bit refl
    where
      go : (o : Option ℕ) → (lookup names named).bit ≡ o → is_other (slot_number s index) (lookup names named).bit ≡ not (eqb (slot_number s index) 0)
      go O.None e = ap (is_other (slot_number s index)) e
      go (Some k) e = absurd (clash unknown (ap is_none e))

  pub name-tests : NameTests s names index name
  name-tests = record { unknown = unknown-exactly; two-bits = two-bits-exactly }
