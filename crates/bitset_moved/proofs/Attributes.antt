-- A list of bytes behind other bytes: its parts, its numbers and its attributes are the same, each place moved by the length of what stands
-- in front.
use Prim.Native.Nat.{ℕ, zero, suc, ◌+◌, ◌-◌, ◌≤◌, ◌<◌, min}
use mathlib.Core.Path.{◌≡◌, refl, sym, ap, ◌∙◌}
use mathlib.Core.List.{List, ◌++◌}
use mathlib.Core.Logic.{⊎_elim}
use lib.ListN.{length, take, drop, length-append}
use lib.Seq.{take-append-add, drop-append-add}
use native.Mathlib.Omega.{arith}
use Rattle.basics.specs.Numbers.{u16_at}
use Rattle.basics.proofs.Numbers.{u16-past}
use Rattle.basics.proofs.Order.{lt-or-ge}
use Rattle.netlink_headers.specs.Lengths.{round_up4}
use Rattle.netlink_attributes.specs.Attributes.{headed_at, attribute_at, part_of, Attributes, on_read, attributes}
use Rattle.netlink_attributes.specs.Attributes.Attributes.{done, broken, attribute}
use Rattle.netlink_attributes.specs.declared.AttributeRead.{AttributeRead}
use Rattle.netlink_attributes.specs.declared.AttributeRead.TheVariants as A
use Rattle.netlink_attributes.proofs.Laws.{attribute-end, attribute-few, attribute-low, attribute-long, attribute-here, part_in, part-past, part-back, Bounded, bounded, attributes-step}

abbrev pub moved_read : ℕ → AttributeRead → AttributeRead
moved_read by A.End = A.End
moved_read by A.Broken = A.Broken
moved_read by (A.Attribute x) =
    A.Attribute (record { kind = x.kind; bits = x.bits; start = by + x.start; end = by + x.end; next = by + x.next })

abbrev pub moved_all : ℕ → Attributes → Attributes
moved_all by done = done
moved_all by (broken at) = broken (by + at)
moved_all by (attribute k b a e rest) = attribute k b (by + a) (by + e) (moved_all by rest)

module _ (pre c : List ℕ) where
  all-long : length (pre ++ c) ≡ length pre + length c
  all-long = length-append pre c

  -- a part behind what stands in front
  pub part_moved : (a e : ℕ) → part_of (pre ++ c) (length pre + a) (length pre + e) ≡ part_of c a e
  part_moved a e =
      let l = all-long in
      ⊎_elim
      (λ (h : e < a). sym (part-back (pre ++ c) (length pre + a) (length pre + e) (omega arith)) ∙ part-back c a e h)
      (λ (h : a ≤ e). ⊎_elim
      (λ (g : length c < e). sym (part-past (pre ++ c) (length pre + a) (length pre + e) (omega arith) (omega arith)) ∙ part-past c a e h g)
      (λ (g : e ≤ length c).
      let k : length pre + e - (length pre + a) ≡ e - a = omega arith in
      sym (part_in (pre ++ c) (length pre + a) (length pre + e) (omega arith) (omega arith))
      ∙ ap (λ (n : ℕ). take n (drop (length pre + a) (pre ++ c))) k
      ∙ ap (λ (x : List ℕ). take (e - a) x) (drop-append-add pre c a)
      ∙ part_in c a e h g)
      (lt-or-ge (length c) e))
      (lt-or-ge e a)

  -- a part from the start on, over the seam
  pub front-moved : (e : ℕ) → e ≤ length c → part_of (pre ++ c) 0 (length pre + e) ≡ pre ++ part_of c 0 e
  front-moved e g =
      let l = all-long in
      let k : length pre + e - 0 ≡ length pre + e = omega arith in
      let j : e ≡ e - 0 = omega arith in
      sym (part_in (pre ++ c) 0 (length pre + e) (omega arith) (omega arith))
      ∙ ap (λ (n : ℕ). take n (pre ++ c)) k
      ∙ take-append-add pre c e
      ∙ ap (λ (n : ℕ). pre ++ take n c) j
      ∙ ap (λ (x : List ℕ). pre ++ x) (part_in c 0 e (omega arith) g)

  module _ (at : ℕ) where
    length-there : u16_at (pre ++ c) (length pre + at) ≡ u16_at c at
    length-there = u16-past pre c (length pre + at) at refl

    kind-there : u16_at (pre ++ c) (length pre + at + 2) ≡ u16_at c (at + 2)
    kind-there = u16-past pre c (length pre + at + 2) (at + 2) (omega arith)

    -- one attribute
    pub attribute-moved : attribute_at (pre ++ c) (length pre + at) ≡ moved_read (length pre) (attribute_at c at)
    attribute-moved =
        let l = all-long in
        let s = length-there in
        ⊎_elim
        (λ (h : at < length c).
        let h' : length pre + at < length (pre ++ c) = omega arith in
        ⊎_elim
        (λ (f : length c < at + 4).
        sym (attribute-few (pre ++ c) (length pre + at) h' (omega arith)) ∙ ap (moved_read (length pre)) (attribute-few c at h f))
        (λ (f : at + 4 ≤ length c).
        let f' : length pre + at + 4 ≤ length (pre ++ c) = omega arith in
        ⊎_elim
        (λ (w : u16_at c at < 4).
        sym (attribute-low (pre ++ c) (length pre + at) h' f' (omega arith)) ∙ ap (moved_read (length pre)) (attribute-low c at h f w))
        (λ (w : 4 ≤ u16_at c at).
        let w' : 4 ≤ u16_at (pre ++ c) (length pre + at) = omega arith in
        ⊎_elim
        (λ (g : length c < at + u16_at c at).
        sym (attribute-long (pre ++ c) (length pre + at) h' f' w' (omega arith)) ∙ ap (moved_read (length pre)) (attribute-long c at h f w g))
        (λ (g : at + u16_at c at ≤ length c).
        sym (attribute-here (pre ++ c) (length pre + at) h' f' w' (omega arith)) ∙ here ∙ ap (moved_read (length pre)) (attribute-here c at h f w g))
        (lt-or-ge (length c) (at + u16_at c at)))
        (lt-or-ge (u16_at c at) 4))
        (lt-or-ge (length c) (at + 4)))
        (λ (h : length c ≤ at). sym (attribute-end (pre ++ c) (length pre + at) (omega arith)) ∙ ap (moved_read (length pre)) (attribute-end c at h))
        (lt-or-ge at (length c))
      where
        here : A.Attribute (headed_at (pre ++ c) (length pre + at)) ≡ moved_read (length pre) (A.Attribute (headed_at c at))
        here =
            let a : length pre + at + 4 ≡ length pre + (at + 4) = omega arith in
            let e : length pre + at + u16_at c at ≡ length pre + (at + u16_at c at) = omega arith in
            let n : min (length pre + at + round_up4 (u16_at c at)) (length pre + length c) ≡ length pre + min (at + round_up4 (u16_at c at)) (length c) = omega arith in
            rw (kind-there, length-there, all-long, a, e, n)

  -- as far as what follows agrees
  on-moved : (at : ℕ) (r : AttributeRead) → Bounded c at r
      → ((n : ℕ) → at < n → n ≤ length c → attributes (pre ++ c) (length pre + n) ≡ moved_all (length pre) (attributes c n))
      → on_read (moved_read (length pre) r) (length pre + at) (attributes (pre ++ c)) ≡ moved_all (length pre) (on_read r at (attributes c))
  on-moved at A.End b f = refl
  on-moved at A.Broken b f = refl
  on-moved at (A.Attribute x) b f =
      ap (attribute x.kind x.bits (length pre + x.start) (length pre + x.end)) (f x.next (omega arith) (omega arith))

  step : (at : ℕ)
      → on_read (moved_read (length pre) (attribute_at c at)) (length pre + at) (attributes (pre ++ c)) ≡ moved_all (length pre) (on_read (attribute_at c at) at (attributes c))
      → attributes (pre ++ c) (length pre + at) ≡ moved_all (length pre) (attributes c at)
  step at q =
      attributes-step (pre ++ c) (length pre + at)
      ∙ ap (λ (r : AttributeRead). on_read r (length pre + at) (attributes (pre ++ c))) (attribute-moved at)
      ∙ q
      ∙ sym (ap (moved_all (length pre)) (attributes-step c at))

  up_to : (m at : ℕ) → length c ≤ m + at → attributes (pre ++ c) (length pre + at) ≡ moved_all (length pre) (attributes c at)
  up_to zero at h =
      step at (on-moved at (attribute_at c at) (bounded c at) (λ n l u. absurd (omega arith)))
  up_to (suc m) at h =
      step at (on-moved at (attribute_at c at) (bounded c at) (λ n l u. up_to m n (omega arith)))

  -- the attributes from a place on
  pub attributes-moved : (at : ℕ) → attributes (pre ++ c) (length pre + at) ≡ moved_all (length pre) (attributes c at)
  attributes-moved at = up_to (length c) at (omega arith)
