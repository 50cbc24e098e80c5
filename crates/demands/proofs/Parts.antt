-- What is read of a request stands in its parent, apart from its siblings: from the parts of a BIT up to the nests of the top level.
--     bitset-read     the bitset: a fault in it, or its parts, and of BITS each BIT and its parts
--     header_read_lem     the header: a fault in it, or index, name and flags in it
--     top_read        header and bitset stand in the message behind byte 20, and what is read of them in them
use Rattle.std.specs.Prelude.{Err}
use Prim.Native.Nat.{ℕ, ◌+◌, ◌-◌, ◌≤◌, ◌<◌}
use mathlib.Core.Path.{◌≡◌, refl, sym, ap, ◌∙◌}
use mathlib.Core.List.{List, [], ◌∷◌}
use mathlib.Core.Bool.{Bool, true, false, ◌&&◌, not, cond}
use lib.ListN.{length, drop, get_or, length-drop}
use lib.Seq.{length-take-le}
use native.Mathlib.Omega.{arith}
use Rattle.basics.proofs.Truth.{clash}
use Rattle.netlink_attributes.specs.Attributes.{Attributes, attributes, part_of}
use Rattle.netlink_attributes.specs.Attributes.Attributes.{done, attribute, broken}
use Rattle.netlink_attributes.specs.Claims.{Apart}
use Rattle.netlink_attributes.proofs.Apart.{apart}
use Rattle.netlink_attributes.proofs.Laws.{part_in}
use Rattle.netlink.specs.Walk.{absent, walked}
use Rattle.netlink.specs.Claims.{Inside, Disjoint, PartsIn, Passed}
use Rattle.netlink.specs.Claims.Passed.{here, next}
use Rattle.netlink.proofs.walk.Meaning.{whole-passed, stop_is}
use Rattle.netlink.proofs.walk.Place.{slot-inside, slots-disjoint, fault-inside}
use Rattle.netlink.specs.declared.policy.Rule.{Rule}
use Rattle.netlink.specs.declared.walk.Slot.{Slot}
use Rattle.netlink.specs.declared.walk.Stop.{Stop}
use Rattle.netlink.specs.declared.walk.Stop.TheVariants.{Whole, At}
use Rattle.refusal.specs.Refusal.{on_stop}
use Rattle.refusal.specs.declared.Refusal.TheVariants as R
use Rattle.bitset_form.specs.Bitset.Reading.{refused}
use Rattle.bitset_form.specs.Policies.{bitset_policy, bits_policy, bit_policy}
use Rattle.bitset_form.specs.Parts.{bitset_parts, bit_parts}
use Rattle.bitset_form.specs.declared.parts.BitsetParts.{BitsetParts}
use Rattle.bitset_bit.specs.Bit.{bit_parts_reading}
use Rattle.bitset_bit.proofs.Laws.{by-walk}
use Rattle.bitset_list.specs.BitList.{ListReading, on_bit, bits_reading, as_bitset, list_reading}
use Rattle.bitset.specs.Judge.{bitset_parts_reading, bitset_reading}
use Rattle.layout.specs.Layout.{list_of}
use Rattle.boxes.specs.Box.{Box}
use Rattle.admission.specs.declared.commands.Command.{Command}
use Rattle.request.specs.Policies.{top_policy, header_policy}
use Rattle.request.specs.Parts.{top_parts, header_parts}
use Rattle.request.specs.Top.{nests_of, top_of}
use Rattle.request.specs.Header.{judged_parts, header_of}
use Rattle.request.specs.declared.parts.TopParts.{TopParts}
use Rattle.request.specs.declared.parts.HeaderParts.{HeaderParts}
use Rattle.demands.specs.Parts.{StandsIn, BitsRead, ListRead, BitsetRead, HeaderRead, NestParts}
use Rattle.demands.specs.Parts.BitsRead.{no_bit, bit_fault, bit_read}
use Rattle.demands.specs.Parts.ListRead.{bits_fault, bits_read}
use Rattle.demands.specs.Parts.BitsetRead.{bitset_fault, bitset_read}
use Rattle.demands.specs.Parts.HeaderRead.{header_fault, header_read}
use Rattle.demands.proofs.Request.{kind}
use Rattle.std.specs.Prelude.{Ok, Err}

-- a list cut at an end inside it ends there
pub front_length : (s : List ℕ) (end : ℕ) → end ≤ length s → length (part_of s 0 end) ≡ end
front_length s end h = ap length (sym (part_in s 0 end (omega arith) h)) ∙ length-take-le (end - 0) (drop 0 s) (rw (length-drop 0 s) (omega arith)) ∙ omega arith

-- the slots of a walk that is whole
module _ (p : List Rule) (s : List ℕ) (from : ℕ) (whole : (walked p s from).stop ≡ Whole) where
  abbrev slot : ℕ → Slot
  slot kind = get_or (walked p s from).slots kind absent

  inside : (kind : ℕ) → kind < 8 → Inside from (length s) (slot kind)
  inside = slot-inside p s from whole

  beside : (i j : ℕ) → i < j → j < 8 → Disjoint (slot i) (slot j)
  beside i j l h = slots-disjoint p s from whole i j (omega arith) h (λ e. omega arith)

  two-parts : PartsIn from (length s) (slot 1 ∷ slot 2 ∷ [])
  two-parts = (inside 1 (omega arith), (beside 1 2 (omega arith) (omega arith), tt), (inside 2 (omega arith), tt, tt))

  pub three-parts : PartsIn from (length s) (slot 1 ∷ slot 2 ∷ slot 3 ∷ [])
  three-parts = (
    inside 1 (omega arith),
    (beside 1 2 (omega arith) (omega arith), (beside 1 3 (omega arith) (omega arith), tt)),
    (inside 2 (omega arith), (beside 2 3 (omega arith) (omega arith), tt), (inside 3 (omega arith), tt, tt)),
  )

  pub five-parts : PartsIn from (length s) (slot 1 ∷ slot 2 ∷ slot 3 ∷ slot 4 ∷ slot 5 ∷ [])
  five-parts = (
    inside 1 (omega arith),
    (beside 1 2 (omega arith) (omega arith), (beside 1 3 (omega arith) (omega arith), (beside 1 4 (omega arith) (omega arith), (beside 1 5 (omega arith) (omega arith), tt)))),
    (
      inside 2 (omega arith),
      (beside 2 3 (omega arith) (omega arith), (beside 2 4 (omega arith) (omega arith), (beside 2 5 (omega arith) (omega arith), tt))),
      (
        inside 3 (omega arith),
        (beside 3 4 (omega arith) (omega arith), (beside 3 5 (omega arith) (omega arith), tt)),
        (inside 4 (omega arith), (beside 4 5 (omega arith) (omega arith), tt), (inside 5 (omega arith), tt, tt)),
      ),
    ),
  )

-- the BITs
module _ (s names : List ℕ) where
  -- the BITs from a place on, of which only padding parts it
  bits-read : (before at : ℕ) → before ≤ at → at < before + 4 → (xs : Attributes) → Apart s at xs → Passed bits_policy s xs done
      → BitsRead s names before (bits_reading s names xs)
  unfolding bits_reading bit_parts
  bits-read before at lo hi done q here = no_bit {at = before} (omega (arith, q))
  bits-read before at lo hi (broken _) q never = elim never [ ]
  bits-read before at lo hi (attribute k b a e rest) q (next right others) =
      rw (by-walk (part_of s 0 e) names a)
      (go (walked bit_policy (part_of s 0 e) a).stop refl (bits-read e q.5.0 q.5.1 q.5.4 rest q.5.3 others))
    where
      stands : StandsIn before (length s) a e
      stands = let i = q.0 in (omega arith, omega arith, q.2, q.3)

      cut : length (part_of s 0 e) ≡ e
      cut = front_length s e q.3

      go : (t : Stop) → (walked bit_policy (part_of s 0 e) a).stop ≡ t → BitsRead s names e (bits_reading s names rest)
          → BitsRead s names before
          (on_bit (on_stop t Err (bit_parts_reading (part_of s 0 e) names (a - 4) (bit_parts (walked bit_policy (part_of s 0 e) a).slots))) (bits_reading s names rest))
      go Whole w others = bit_read a e stands _ (rw cut at (three-parts bit_policy (part_of s 0 e) a w)) others
      go (At fault place) w others =
          let i = fault-inside bit_policy (part_of s 0 e) a fault place w in
          let h = i.1 in
          bit_fault a e stands fault place i.0 (omega (arith, cut))

-- BITS, and the bitset
module _ (s names : List ℕ) where
  list_read : (parts : BitsetParts) → parts.bits.start ≤ parts.bits.end → parts.bits.end ≤ length s → ListRead s names parts
  unfolding list_reading
  list_read parts lo hi = go (walked bits_policy p parts.bits.start).stop refl refl
    where
      p : List ℕ
      p = part_of s 0 parts.bits.end

      list : ListReading
      list = bits_reading p names (attributes p parts.bits.start)

      go : (t : Stop) → (walked bits_policy p parts.bits.start).stop ≡ t
          → list_reading s names parts ≡ on_stop t refused (as_bitset parts.nomask.present list) → ListRead s names parts
      go Whole w e =
          let passed = whole-passed bits_policy p (attributes p parts.bits.start) (sym (stop_is bits_policy p parts.bits.start) ∙ w) in
          bits_read list (bits-read p names parts.bits.start parts.bits.start (omega arith) (omega arith) _ (apart p parts.bits.start) passed) e
      go (At fault place) w e =
          let i = fault-inside bits_policy p parts.bits.start fault place w in
          let h = i.1 in
          let c = front_length s parts.bits.end hi in
          bits_fault fault place i.0 (omega arith) e

  pub bitset-read : (from : ℕ) → BitsetRead s from names
  unfolding bitset_reading bitset_parts
  bitset-read from = go (walked bitset_policy s from).stop refl refl
    where
      parts : BitsetParts
      parts = bitset_parts (walked bitset_policy s from).slots

      go : (t : Stop) → (walked bitset_policy s from).stop ≡ t
          → bitset_reading s from names ≡ on_stop t refused (bitset_parts_reading s (from - 4) names parts) → BitsetRead s from names
      go Whole w e =
          bitset_read parts (five-parts bitset_policy s from w) e
          (λ t. let i = inside bitset_policy s from w 3 (omega arith) t in list_read parts i.1 i.2)
      go (At fault place) w e = let i = fault-inside bitset_policy s from fault place w in bitset_fault fault place i.0 i.1 e

-- the header nest, and the top level
module _ (m : List ℕ) where
  pub header_read_lem : (header : Slot) (dump : Bool) → header.end ≤ length m → HeaderRead m header dump
  unfolding header_of header_parts
  header_read_lem header dump hi = go (walked header_policy s header.start).stop refl refl
    where
      s : List ℕ
      s = part_of m 0 header.end

      read : HeaderParts
      read = header_parts (walked header_policy s header.start).slots

      go : (t : Stop) → (walked header_policy s header.start).stop ≡ t → header_of m header dump ≡ on_stop t Err (judged_parts m (header.start - 4) dump read) → HeaderRead m header dump
      go Whole w e = header_read read (rw (front_length m header.end hi) at (three-parts header_policy s header.start w)) e
      go (At fault place) w e =
          let i = fault-inside header_policy s header.start fault place w in
          let h = i.1 in
          header_fault fault place i.0 (omega (arith, front_length m header.end hi)) e

  -- the top level read by its walk
  module _ (box : Box) (dump : Bool) (command : Command) where
    abbrev change : Bool
    change = command.change

    pub top_read : (top : TopParts) → top_of m change ≡ Ok top → NestParts box m dump command top
    unfolding top_of nests_of top_parts
    top_read top = go (walked (top_policy change) m 20).stop refl
      where
        read : TopParts
        read = top_parts (walked (top_policy change) m 20).slots

        -- the parts are those of the walk, and those that are required are present
        is-it : (a b : Bool) → cond (not a) (Err (R.MissingTop 1)) (cond (change && not b) (Err (R.MissingTop 2)) (Ok read)) ≡ Ok top
            → (read ≡ top) × (a ≡ true) × (change ≡ true → b ≡ true)
        is-it false b e = absurd (let z : ◌≡◌ {A = ℕ} 0 1 = cc in omega arith)
        is-it true b e = by change refl b e
          where
            by : (c : Bool) → change ≡ c → (b : Bool) → cond (c && not b) (Err (R.MissingTop 2)) (Ok read) ≡ Ok top
                → (read ≡ top) × (true ≡ true) × (change ≡ true → b ≡ true)
            by true q true e = (cc, refl, λ t. refl)
            by true q false e = absurd (let z : ◌≡◌ {A = ℕ} 0 1 = cc in omega arith)
            by false q b e = (cc, refl, λ t. absurd (clash t q))

        go : (t : Stop) → (walked (top_policy change) m 20).stop ≡ t → on_stop t Err (nests_of change read) ≡ Ok top → NestParts box m dump command top
        go (At fault place) w e = absurd (let z : ◌≡◌ {A = ℕ} 0 1 = cc in omega arith)
        go Whole w e =
            let is = is-it read.header.present read.bitset.present e in
            let header-in = inside (top_policy change) m 20 w 1 (omega arith) is.1 in
            rw (← is.0)
            (record {
              nests = two-parts (top_policy change) m 20 w;
              header = header_read_lem read.header dump header-in.2;
              bitset = λ t. bitset-read (part_of m 0 read.bitset.end) (list_of box.names command.set) read.bitset.start;
              bitset-end = λ t. front_length m read.bitset.end (inside (top_policy change) m 20 w 2 (omega arith) (is.2 t)).2;
            })
