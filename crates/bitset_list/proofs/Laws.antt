-- Laws of judging a bit list: one for each return, and for each turn of the loop over its BITs.
use Rattle.std.specs.Prelude.{Result, Ok, Err}
use Prim.Native.Nat.{ℕ, ◌-◌, ◌<◌}
use mathlib.Core.Path.{◌≡◌, refl, sym, ap, ◌∙◌, fun_ext}
use mathlib.Core.List.{List, [], ◌∷◌}
use mathlib.Core.Bool.{Bool, true, false, ◌||◌, cond}
use lib.ListN.{length, replicate}
use lib.Dec.{eqb}
use native.Mathlib.Omega.{arith}
use Rattle.bits.specs.Bit.{number}
use Rattle.bits.specs.Set.{has, words_of, put_bit}
use Rattle.bits.specs.Change.{Listed, applied, list_mask, list_value}
use Rattle.bits.proofs.Words.{has-words_of, words_of-cong}
use Rattle.bits.proofs.Change.{list-is-merge, list-within}
use Rattle.entries.specs.Entry.{count}
use Rattle.netlink_attributes.specs.Attributes.{Attributes, attributes, attribute_at, on_read, part_of}
use Rattle.netlink.specs.Walk.{walked}
use Rattle.netlink_attributes.specs.declared.AttributeRead.{AttributeRead}
use Rattle.netlink_attributes.specs.declared.Attribute.{Attribute}
use Rattle.netlink_attributes.specs.declared.AttributeRead.TheVariants as A
use Rattle.netlink.specs.declared.policy.Fault.{Fault}
use Rattle.netlink.specs.declared.policy.Rule.{Rule}
use Rattle.netlink.specs.declared.walk.Stop.{Stop}
use Rattle.netlink.specs.declared.walk.Stop.TheVariants as S
use Rattle.netlink.specs.declared.walk.Walked.{Walked}
use Rattle.netlink_attributes.proofs.Laws.{Bounded, bounded, attributes-step}
use Rattle.refusal.specs.Refusal.{of_fault}
use Rattle.refusal.specs.declared.Refusal.{Refusal}
use Rattle.bitset_form.specs.Policies.{bits_policy}
use Rattle.bitset_form.specs.declared.parts.BitsetParts.{BitsetParts}
use Rattle.bitset_form.specs.Bitset.{mask_of, value_of}
use Rattle.bitset_form.specs.Form.{judged_as, listed_in, under_nomask}
use Rattle.bitset_form.specs.Bitset.Reading.{refused}
use Rattle.bitset_bit.specs.Bit.{bit_reading}
use Rattle.refusal.specs.Refusal.{on_stop}
use Rattle.bitset_list.specs.BitList.{ListReading, on_bit, bits_reading, as_bitset, list_reading}
use Rattle.bitset_list.specs.BitList.ListReading.{list_refused, list_entries}
use Rattle.bitset_list.specs.Judged.{list_judged}
use Rattle.bitset_form.specs.declared.Form.{Form}
use Rattle.bitset_bit.specs.declared.Bit.{Bit}

-- The loop over the BITs: the form of what is listed so far, and what is left.
unfoldable pub form_after : Form → List Listed → Form
form_after f [] = f
form_after f (e ∷ es) = form_after (listed_in f e.bit e.on) es

unfoldable pub judged_after : Form → ListReading → Result Form Refusal
judged_after f (list_refused r) = Err r
judged_after f (list_entries es) = Ok (form_after f es)

abbrev pub empty : Form
empty = record { mask = replicate 16 0; value = replicate 16 0 }

abbrev pub BitsFrom : List ℕ → List ℕ → ℕ → Form → ℕ → Type 0
BitsFrom s names from f at =
    list_judged (bits_reading s names (attributes s from)) ≡ judged_after f (bits_reading s names (attributes s at))

-- one entry after the other is the set that the list makes
mask-after : (f : ℕ → Bool) (v : List ℕ) (es : List Listed)
    → (form_after (record { mask = words_of 16 f; value = v }) es).mask ≡ words_of 16 (λ i. cond (list_mask es i) true (f i))
unfolding form_after list_mask listed_in
mask-after f v [] = refl
mask-after f v (e ∷ es) =
    ap (λ (w : List ℕ). (form_after (record { mask = w; value = words_of 16 (put_bit e.bit e.on (has v)) }) es).mask)
    (words_of-cong 16 _ (put_bit e.bit true f) (λ i h. ap (λ (t : Bool). cond (eqb i e.bit) true t) (has-words_of 16 f i h)))
    ∙ mask-after (put_bit e.bit true f) _ es
    ∙ ap (words_of 16) (fun_ext (λ i. turn (list_mask es i) (eqb i e.bit) (f i)))
  where
    turn : (m h s : Bool) → cond m true (cond h true s) ≡ cond (h || m) true s
    turn true true s = refl
    turn true false s = refl
    turn false true s = refl
    turn false false s = refl

value_after : (m : List ℕ) (f : ℕ → Bool) (es : List Listed)
    → (form_after (record { mask = m; value = words_of 16 f }) es).value ≡ words_of 16 (applied es f)
unfolding form_after applied listed_in
value_after m f [] = refl
value_after m f (e ∷ es) =
    ap (λ (w : List ℕ). (form_after (record { mask = words_of 16 (put_bit e.bit true (has m)); value = w }) es).value)
    (words_of-cong 16 _ (put_bit e.bit e.on f) (λ i h. ap (λ (t : Bool). cond (eqb i e.bit) e.on t) (has-words_of 16 f i h)))
    ∙ value_after (words_of 16 (put_bit e.bit true (has m))) (put_bit e.bit e.on f) es

none : ℕ → Bool
none i = false

zeros : replicate 16 0 ≡ words_of 16 none
unfolding none words_of number
zeros = refl

after-all : (es : List Listed) → form_after empty es ≡ record { mask = words_of 16 (list_mask es); value = words_of 16 (list_value es) }
unfolding none
after-all es =
    let start : empty ≡ record { mask = words_of 16 none; value = words_of 16 none } = ap (λ (w : List ℕ). record { mask = w; value = w }) zeros in
    let f = form_after empty es in
    form-ext f _
    (ap (λ (x : Form). (form_after x es).mask) start ∙ mask-after none (words_of 16 none) es ∙ ap (words_of 16) (fun_ext (λ i. on (list_mask es i))))
    (ap (λ (x : Form). (form_after x es).value) start ∙ value_after (words_of 16 none) none es
    ∙ ap (words_of 16) (fun_ext (λ i. list-is-merge es none i ∙ off (list_mask es i) (list_value es i) (list-within es i))))
  where
    on : (m : Bool) → cond m true false ≡ m
    on true = refl
    on false = refl

    off : (m v : Bool) → (m ≡ false → v ≡ false) → cond m v false ≡ v
    off true v h = refl
    off false v h = sym (h refl)

    form-ext : (f : Form) (g : Form) → f.mask ≡ g.mask → f.value ≡ g.value → f ≡ g
    form-ext f g p q = rw (p, q)

pub bits-start : (s names : List ℕ) (from : ℕ) → BitsFrom s names from empty from
unfolding judged_after list_judged
bits-start s names from = go (bits_reading s names (attributes s from))
  where
    go : (x : ListReading) → list_judged x ≡ judged_after empty x
    go (list_refused r) = refl
    go (list_entries es) = ap (λ (f : Form). Ok f) (sym (after-all es))

module _ (s names : List ℕ) (from : ℕ) (f : Form) (at : ℕ) (inv : BitsFrom s names from f at) (r : AttributeRead) (e : r ≡ attribute_at s at) where
  step : list_judged (bits_reading s names (attributes s from)) ≡ judged_after f (bits_reading s names (on_read r at (attributes s)))
  step = inv ∙ ap (λ (x : Attributes). judged_after f (bits_reading s names x)) (attributes-step s at ∙ ap (λ (x : AttributeRead). on_read x at (attributes s)) (sym e))

  pub bits-end : r ≡ A.End → Ok f ≡ list_judged (bits_reading s names (attributes s from))
  unfolding bits_reading judged_after form_after
  bits-end q = sym (rw q at step)

  pub bits-broken : r ≡ A.Broken → Ok f ≡ list_judged (bits_reading s names (attributes s from))
  unfolding bits_reading judged_after form_after
  bits-broken q = sym (rw q at step)

  module _ (x : Attribute) (q : r ≡ A.Attribute x) where
    inside : Bounded s at (A.Attribute x)
    inside = rw (sym e ∙ q) at (bounded s at)

    pub bits-less : length s - x.next < length s - at
    bits-less = let i = inside in omega arith

    module _ (p : List ℕ) (ep : p ≡ part_of s 0 x.end) (v : Result Bit Refusal) (ev : v ≡ bit_reading p names x.start) where
      one : list_judged (bits_reading s names (attributes s from)) ≡ judged_after f (on_bit v (bits_reading s names (attributes s x.next)))
      unfolding bits_reading
      one =
          rw q at step
          ∙ ap (λ (y : Result Bit Refusal). judged_after f (on_bit y (bits_reading s names (attributes s x.next)))) (sym (ev ∙ ap (λ (y : List ℕ). bit_reading y names x.start) ep))

      pub bits-refused : (why : Refusal) → v ≡ Err why → Err why ≡ list_judged (bits_reading s names (attributes s from))
      unfolding judged_after
      bits-refused why h = sym (rw h at one)

      pub bits-more : (b : Bit) (m y : List ℕ) → v ≡ Ok b → record { mask = m; value = y } ≡ listed_in f b.number b.on
          → BitsFrom s names from (record { mask = m; value = y }) x.next
      unfolding judged_after form_after
      bits-more b m y h eg = rw eg (rw h at one ∙ go (bits_reading s names (attributes s x.next)))
        where
          go : (l : ListReading) → judged_after f (on_bit (Ok b) l) ≡ judged_after (listed_in f b.number b.on) l
          go (list_refused r) = refl
          go (list_entries es) = refl

pub ruleset bits_laws = (bits-start, bits-end, bits-broken, bits-less, bits-refused, bits-more)

-- the whole list
module _ (s names : List ℕ) (parts : BitsetParts) (c : List ℕ) (ec : c ≡ part_of s 0 parts.bits.end)
    (p : List Rule) (ep : p ≡ bits_policy) (w : Walked) (ew : w ≡ walked p c parts.bits.start) where
  -- what the BITs of contents say
  abbrev bits_read : List ℕ → ListReading
  bits_read x = bits_reading x names (attributes x parts.bits.start)

  by_bits : list_reading s names parts ≡ on_stop w.stop refused (as_bitset parts.nomask.present (bits_read c))
  unfolding list_reading
  by_bits =
      ap (λ (x : List ℕ). on_stop (walked bits_policy x parts.bits.start).stop refused (as_bitset parts.nomask.present (bits_read x))) (sym ec)
      ∙ ap (λ (x : Walked). on_stop x.stop refused (as_bitset parts.nomask.present (bits_read c)))
      (sym (ew ∙ ap (λ (x : List Rule). walked x c parts.bits.start) ep))

  pub list-fault : (f : Fault) (at : ℕ) (y : Refusal) (r : Result Form Refusal) → w.stop ≡ S.At f at → y ≡ of_fault f at → r ≡ Err y
      → r ≡ judged_as (count names) (list_reading s names parts)
  unfolding judged_as
  list-fault f at y r q ey er =
      er ∙ ap Err ey ∙ sym (ap (judged_as (count names)) (by_bits ∙ ap (λ (x : Stop). on_stop x refused (as_bitset parts.nomask.present (bits_read c))) q))

  module _ (q : w.stop ≡ S.Whole) (j : Result Form Refusal) (ej : j ≡ list_judged (bits_read c)) where
    whole-list : list_reading s names parts ≡ as_bitset parts.nomask.present (bits_read c)
    whole-list = by_bits ∙ ap (λ (x : Stop). on_stop x refused (as_bitset parts.nomask.present (bits_read c))) q

    pub list-nomask : (n : ℕ) (r : Result Form Refusal) → n ≡ count names → parts.nomask.present ≡ true → r ≡ under_nomask n j
        → r ≡ judged_as (count names) (list_reading s names parts)
    unfolding under_nomask judged_as list_judged mask_of value_of
    list-nomask n r en h er =
        er ∙ ap (under_nomask n) ej ∙ go (bits_read c)
        ∙ ap (λ (x : ℕ). judged_as x (as_bitset true (bits_read c))) en
        ∙ sym (ap (judged_as (count names)) (whole-list ∙ ap (λ (t : Bool). as_bitset t (bits_read c)) h))
      where
        go : (x : ListReading) → under_nomask n (list_judged x) ≡ judged_as n (as_bitset true x)
        go (list_refused r) = refl
        go (list_entries es) = refl

    pub list-masked : parts.nomask.present ≡ false → j ≡ judged_as (count names) (list_reading s names parts)
    unfolding judged_as list_judged mask_of value_of
    list-masked h =
        ej ∙ go (bits_read c)
        ∙ sym (ap (judged_as (count names)) (whole-list ∙ ap (λ (t : Bool). as_bitset t (bits_read c)) h))
      where
        go : (x : ListReading) → list_judged x ≡ judged_as (count names) (as_bitset false x)
        go (list_refused r) = refl
        go (list_entries es) = refl
