-- Demands 2 and 3 speak of one bitset, of the functions that C calls.
--     done-normal     after a done SET the normaliser answers 0 to the payload and writes the normal form of the bitset that was carried out, and that
--                     form makes of the set that was found the set that was left
--     same_number     a SET that comes to its bitset is refused by the number by which the normaliser refuses the payload, 0 where it is done
--     same-change     two done SETs over one list of names: the normaliser writes the same bytes for both exactly when they change every starting set
--                     alike; and then, from the same set, they leave the same set
use Prim.Native.Nat.{ℕ, ◌+◌, ◌≤◌}
use mathlib.Core.Path.{◌≡◌, refl, sym, ap, ◌∙◌}
use mathlib.Core.List.{List, ◌∷◌}
use mathlib.Core.Bool.{Bool, true, false, ◌&&◌, not, cond}
use lib.ListN.{length}
use lib.Dec.{eqb, ltb}
use native.Mathlib.Omega.{arith}
use borrow.Author.Tests.{ltb-false}
use Rattle.basics.specs.Numbers.{u32_at}
use Rattle.bits.specs.Change.{Same, Below, list_mask, list_value}
use Rattle.bits.proofs.Change.{list-is-merge}
use Rattle.bits.proofs.Cut.{none_below}
use Rattle.entries.specs.Entry.{count}
use Rattle.names.specs.Rule.{names_right}
use Rattle.netlink_headers.specs.Headers.{message_header}
use Rattle.netlink_headers.specs.declared.headers.MessageHeader.{MessageHeader}
use Rattle.bitset_form.specs.Bitset.{Bitset, effect}
use Rattle.bitset_form.specs.Bitset.Bitset.{masked_bitmap, nomask_bitmap, masked_list, nomask_list}
use Rattle.bitset_form.specs.Bitset.Reading.{accepted}
use Rattle.bitset.specs.Judge.{bitset_reading}
use Rattle.bitset_moved.proofs.Both.{accepted-alone, both-accept}
use Rattle.normal.specs.Normal.{NormalAnswer, normal_form, normalised}
use Rattle.normal.specs.Claims.{ActAlike}
use Rattle.normal.proofs.Accepted.{form_bitset, form-read, form-alike, readings-decide}
use Rattle.layout.specs.Layout.{list_of, size_of}
use Rattle.layout.proofs.Laws.{lists_of}
use Rattle.boxes.specs.Box.{Box, State, sizes_in, set_of}
use Rattle.boxes.specs.declared.Call.{Call}
use Rattle.boxes.specs.Rule.{box_right}
use Rattle.boxes.proofs.rule.Meaning.{box-means}
use Rattle.response.specs.Answer.{Outcome, refusal_number}
use Rattle.response.specs.declared.Kind.{Kind}
use Rattle.response.specs.declared.Kind.TheVariants.{Done}
use Rattle.refusal.specs.declared.Refusal.TheVariants as R
use Rattle.admission.specs.Admission.{admitted}
use Rattle.handler.specs.Call.{ends_run}
use Rattle.handler.specs.Bytes.{Stored, in_words, bytes_outcome}
use Rattle.demands.specs.Check.{Check, refuse_if, first_kind, AllPass}
use Rattle.demands.specs.Call.{message_of, call_checks}
use Rattle.demands.specs.Message.{Named}
use Rattle.demands.specs.Normaliser.{normaliser_answer, AnsweredAlike}
use Rattle.demands.specs.Normaliser.AnsweredAlike.{both-done, both-refused}
use Rattle.demands.specs.Done.{DoneSet}
use Rattle.demands.specs.Stored.{stored_right, as_words, DoneSetStored}
use Rattle.demands.proofs.First.{done_first}
use Rattle.demands.proofs.Stored.{done-exactly, set-alike}
use Rattle.demands.proofs.StoredBox.{right-box}
use Rattle.demands.proofs.Normaliser.{part-short, bitset-inside}
use Rattle.demands.specs.Change.{Change, change_of, NormalisedAs, SameForm, SameChange, HandledSet, handled_change}
use Rattle.std.specs.Prelude.{Ok}
use Rattle.admission.specs.declared.Admission.TheVariants.{Admitted}

-- a bitset makes the same of the same set
effect-same : (b : Bitset) (s t : ℕ → Bool) → Same s t → Same (effect b s) (effect b t)
unfolding effect
effect-same (masked_bitmap size value mask) s t same i = ap (cond (ltb i size && mask i) (value i)) (same i)
effect-same (nomask_bitmap size value) s t same i = refl
effect-same (masked_list es) s t same i = list-is-merge es s i ∙ ap (cond (list_mask es i) (list_value es i)) (same i) ∙ sym (list-is-merge es t i)
effect-same (nomask_list es) s t same i = refl

-- a done SET of a right box, whose message is no longer than a datagram may be
module _ (box : Box) (state : State) (call : Call) (m : List ℕ) (h : MessageHeader) (o : Outcome State) (right : box_right box state call ≡ true)
    (short : length m ≤ 32768) (d : DoneSet box state call m h o) where
  abbrev names : List ℕ
  names = list_of box.names d.named.command.set

  abbrev change : Change
  change = change_of d

  names-right : names_right names ≡ true
  names-right = (box-means box state call right).names-right d.named.command.set

  inside : (d.named.parts.bitset.start ≤ d.named.parts.bitset.end) × (d.named.parts.bitset.end ≤ length m)
  inside = bitset-inside box.roll m d.named

  -- the payload alone reads as the bitset that was carried out
  alone : bitset_reading change.payload 0 names ≡ accepted d.bits
  alone = accepted-alone m names d.named.parts.bitset.start d.named.parts.bitset.end inside.0 inside.1 d.bits d.carries

  -- the set that was found is a set of bits below N
  found_below : Below (count names) change.before
  unfolding set_of
  found_below =
      rw (lists_of count box.names d.named.command.set) at
      (none_below (set_of box state d.named.target.position d.named.command.set) (size_of (sizes_in box) d.named.command.set)
      ((box-means box state call right).settings.clear d.named.target.position d.named.port.inside d.named.command.set))

  written : (page : ℕ) → 144 ≤ page → normalised change.payload names page ≡ record { number = 0; bytes = normal_form (count names) d.bits }
  written page wide =
      both-accept m names d.named.parts.bitset.start d.named.parts.bitset.end inside.0 inside.1 names-right page wide
      (let s = part-short m d.named.parts.bitset.start d.named.parts.bitset.end in omega arith) d.bits d.carries

  normalised-as : (page : ℕ) → 144 ≤ page → NormalisedAs names page change
  normalised-as page wide =
      record {
        answer = written page wide;
        form = form_bitset (count names) d.bits;
        reads =
            ap (λ (x : NormalAnswer). bitset_reading x.bytes 0 names) (written page wide)
            ∙ form-read names names-right change.payload d.bits alone;
        makes = λ i. d.own i ∙ sym (form-alike names names-right change.payload d.bits alone change.before found_below i);
      }

-- a call whose checks all pass: its box is right, and its datagram is not too long
passed : (right : Bool) (box : Box) (call : Call) (datagram : List ℕ) (room : ℕ) → AllPass (call_checks right box call datagram room)
    → (right ≡ true) × (length datagram ≤ 32768)
unfolding call_checks refuse_if first_kind
passed right box call datagram room = go right (ltb room 32768) (ltb 32768 (length datagram)) refl
  where
    go : (a b c : Bool) → ltb 32768 (length datagram) ≡ c → {rest : List Check} → AllPass (refuse_if (not a) R.Box ∷ refuse_if b R.Page ∷ refuse_if c R.Datagram ∷ rest)
        → (a ≡ true) × (length datagram ≤ 32768)
    go true false false q all = (refl, ltb-false 32768 (length datagram) q)
    go false b c q all = absurd (let e = done_first all in let z : ◌≡◌ {A = ℕ} 0 1 = cc in omega arith)
    go true true c q all = absurd (let e = done_first all in let z : ◌≡◌ {A = ℕ} 0 1 = cc in omega arith)
    go true false true q all = absurd (let e = done_first all in let z : ◌≡◌ {A = ℕ} 0 1 = cc in omega arith)

-- a SET that is admitted and names a port, and so comes to its bitset
module _ (box : Box) (stored : Stored) (call : Call) (datagram : List ℕ) (room : ℕ) where
  abbrev said : Kind
  said = (bytes_outcome box stored call datagram room).response.kind

  abbrev asked : List ℕ
  asked = message_of datagram call.position

  pub same_number : ends_run said ≡ false → (n : Named box.roll asked) → n.command.change ≡ true
      → admitted asked (message_header datagram call.position) call.family (eqb call.admin 1) ≡ Ok (Admitted n.command)
      → (page : ℕ) → 144 ≤ page → refusal_number said ≡ (normaliser_answer box asked n page).number
  same_number going n change admit page wide = by (set-alike box stored call datagram room going n change admit page wide)
    where
      by : AnsweredAlike box asked n page said → refusal_number said ≡ (normaliser_answer box asked n page).number
      by (both-done b kind-of carried answer) = ap refusal_number kind-of ∙ sym (ap (λ (x : NormalAnswer). x.number) answer)
      by (both-refused why kind-of answer) = ap refusal_number kind-of ∙ sym (ap (λ (x : NormalAnswer). x.number) answer)

-- a done SET as the exported handler handled it
module _ (box : Box) (stored : Stored) (call : Call) (datagram : List ℕ) (room : ℕ)
    (kind-of : (bytes_outcome box stored call datagram room).response.kind ≡ Done) where
  abbrev o : Outcome Stored
  o = bytes_outcome box stored call datagram room

  abbrev message : List ℕ
  message = message_of datagram call.position

  all-passed : (stored_right box stored call ≡ true) × (length datagram ≤ 32768)
  all-passed = passed (stored_right box stored call) box call datagram room ((done-exactly box stored call datagram room).0 kind-of)

  message-short : length message ≤ 32768
  unfolding message_of
  message-short = let s = part-short datagram call.position (call.position + u32_at datagram call.position) in omega (arith, s, all-passed.1)

  module _ (d : DoneSetStored box stored call message (message_header datagram call.position) o) where
    words_right : box_right box (in_words stored) call ≡ true
    words_right = right-box box stored call all-passed.0

    pub done-normal : (page : ℕ) → 144 ≤ page → NormalisedAs (list_of box.names d.done.named.command.set) page (change_of d.done)
    done-normal = normalised-as box (in_words stored) call message (message_header datagram call.position) (as_words o) words_right message-short d.done

    payload-reads : bitset_reading (change_of d.done).payload 0 (list_of box.names d.done.named.command.set) ≡ accepted d.done.bits
    payload-reads = alone box (in_words stored) call message (message_header datagram call.position) (as_words o) words_right message-short d.done

    before-below : Below (count (list_of box.names d.done.named.command.set)) (change_of d.done).before
    before-below = found_below box (in_words stored) call message (message_header datagram call.position) (as_words o) words_right message-short d.done

    list_right : names_right (list_of box.names d.done.named.command.set) ≡ true
    list_right = names-right box (in_words stored) call message (message_header datagram call.position) (as_words o) words_right message-short d.done

-- the same, by its record
module _ {names : List ℕ} (x : HandledSet names) where
  set-normal : (page : ℕ) → 144 ≤ page → NormalisedAs names page (handled_change x)
  set-normal page wide = rw x.over at (done-normal x.box x.stored x.call x.datagram x.room x.done x.set page wide)

  set_reads : bitset_reading (handled_change x).payload 0 names ≡ accepted (handled_change x).bits
  set_reads = rw x.over at (payload-reads x.box x.stored x.call x.datagram x.room x.done x.set)

  set_below : Below (count names) (handled_change x).before
  set_below = rw x.over at (before-below x.box x.stored x.call x.datagram x.room x.done x.set)

  set-names : names_right names ≡ true
  set-names = rw x.over at (list_right x.box x.stored x.call x.datagram x.room x.done x.set)

  set-made : Same (handled_change x).after (effect (handled_change x).bits (handled_change x).before)
  set-made = x.set.done.own

pub same-change : {names : List ℕ} (x y : HandledSet names) (page : ℕ) → 144 ≤ page → SameChange names page (handled_change x) (handled_change y)
same-change {names} x y page wide =
    record {
      alike = alike;
      back = λ a. bytes x ∙ decide.0 a ∙ sym (bytes y);
      same = λ e found i. set-made x i ∙ alike e (handled_change x).before (set_below x) i ∙ from-same found i ∙ sym (set-made y i);
    }
  where
    bytes : (z : HandledSet names) → (normalised (handled_change z).payload names page).bytes ≡ normal_form (count names) (handled_change z).bits
    bytes z = ap (λ (a : NormalAnswer). a.bytes) (set-normal z page wide).answer

    decide : (ActAlike (count names) (handled_change x).bits (handled_change y).bits → normal_form (count names) (handled_change x).bits ≡ normal_form (count names) (handled_change y).bits)
        × (normal_form (count names) (handled_change x).bits ≡ normal_form (count names) (handled_change y).bits → ActAlike (count names) (handled_change x).bits (handled_change y).bits)
    decide = readings-decide names (set-names x) (handled_change x).payload (handled_change y).payload (handled_change x).bits (handled_change y).bits (set_reads x) (set_reads y)

    alike : SameForm names page (handled_change x) (handled_change y) → ActAlike (count names) (handled_change x).bits (handled_change y).bits
    alike e = decide.1 (sym (bytes x) ∙ e ∙ bytes y)

    -- the effect on a set is that on any set with the same bits
    from-same : Same (handled_change x).before (handled_change y).before
        → Same (effect (handled_change y).bits (handled_change x).before) (effect (handled_change y).bits (handled_change y).before)
    from-same found = effect-same (handled_change y).bits (handled_change x).before (handled_change y).before found
