-- Laws of the attributes of a parent: one for each return of read_attribute and payload, and the law by which a list of attributes is read
-- one by one.
use Prim.Native.Nat.{ℕ, zero, suc, ◌+◌, ◌-◌, ◌/◌, ◌%◌, ◌≤◌, ◌<◌, min}
use mathlib.Core.Path.{◌≡◌, refl, ap}
use mathlib.Core.List.{List, []}
use mathlib.Core.Logic.{⊎_elim}
use lib.ListN.{length, take, drop}
use native.Mathlib.Omega.{arith}
use borrow.Author.Tests.{lt-ltb, le-ltb, le-leb, lt-leb}
use Rattle.basics.proofs.Order.{lt-or-ge}
use Rattle.basics.specs.Numbers.{u16_at}
use Rattle.netlink_headers.specs.Lengths.{round_up4}
use Rattle.netlink_headers.specs.Headers.{attribute_header_at}
use Rattle.netlink_attributes.specs.Attributes.{headed_at, attribute_at, part_of, Attributes, on_read, attributes_up_to, attributes}
use Rattle.netlink_attributes.specs.Attributes.Attributes.{attribute}
use Rattle.netlink_headers.specs.declared.headers.AttributeHeader.{AttributeHeader}
use Rattle.netlink_headers.specs.declared.headers.AttributeHeaderRead.{AttributeHeaderRead}
use Rattle.netlink_headers.specs.declared.headers.AttributeHeaderRead.TheVariants as A
use Rattle.netlink_attributes.specs.declared.AttributeRead.{AttributeRead}
use Rattle.netlink_attributes.specs.declared.Attribute.{Attribute}
use Rattle.netlink_attributes.specs.declared.AttributeRead.TheVariants as R
use Rattle.netlink_headers.proofs.headers.Laws.{attribute-cut, attribute-fits, attribute-is}

-- by the numbers at the place
module _ (s : List ℕ) (at : ℕ) where
  pub attribute-end : length s ≤ at → R.End ≡ attribute_at s at
  unfolding attribute_at
  attribute-end h = simp (le-leb _ _ h)

  module _ (h : at < length s) where
    pub attribute-few : length s < at + 4 → R.Broken ≡ attribute_at s at
    unfolding attribute_at
    attribute-few f = simp (lt-leb _ _ h, lt-ltb _ _ f)

    module _ (f : at + 4 ≤ length s) where
      pub attribute-low : u16_at s at < 4 → R.Broken ≡ attribute_at s at
      unfolding attribute_at
      attribute-low l = simp (lt-leb _ _ h, le-ltb _ _ f, lt-ltb _ _ l)

      module _ (l : 4 ≤ u16_at s at) where
        pub attribute-long : length s < at + u16_at s at → R.Broken ≡ attribute_at s at
        unfolding attribute_at
        attribute-long g = simp (lt-leb _ _ h, le-ltb _ _ f, le-ltb _ _ l, lt-ltb _ _ g)

        pub attribute-here : at + u16_at s at ≤ length s
            → R.Attribute (headed_at s at) ≡ attribute_at s at
        unfolding attribute_at
        attribute-here g = simp (lt-leb _ _ h, le-ltb _ _ f, le-ltb _ _ l, le-ltb _ _ g)

-- by the header that read_attribute reads
module _ (s : List ℕ) (at : ℕ) (h : at < length s) (r : AttributeHeaderRead) (e : r ≡ attribute_header_at s at) where
  pub read-few : r ≡ A.Short → R.Broken ≡ attribute_at s at
  read-few q = attribute-few s at h (attribute-cut s at r e q)

  module _ (d : AttributeHeader) (q : r ≡ A.Header d) where
    long : d.length ≡ u16_at s at
    long = ap (λ (x : AttributeHeader). x.length) (attribute-is s at r e d q)

    type : d.kind ≡ u16_at s (at + 2)
    type = ap (λ (x : AttributeHeader). x.kind) (attribute-is s at r e d q)

    pub read_low : d.length < 4 → R.Broken ≡ attribute_at s at
    read_low l = attribute-low s at h (attribute-fits s at r e d q) (rw long at l)

    module _ (l : 4 ≤ d.length) where
      pub read-long : length s - at < d.length → R.Broken ≡ attribute_at s at
      read-long g = attribute-long s at h (attribute-fits s at r e d q) (rw long at l) (omega (arith, long))

      pub read_here : (p a m t : ℕ) (x : Attribute) → d.length ≤ length s - at → p ≡ round_up4 d.length → a ≡ at + 4 → m ≡ at + d.length
          → t ≡ min (at + p) (length s) → x ≡ record { kind = d.kind % 16384; bits = d.kind / 16384; start = a; end = m; next = t }
          → R.Attribute x ≡ attribute_at s at
      read_here p a m t x g ep ea em et ex =
          let g2 : at + u16_at s at ≤ length s = omega (arith, long) in
          rw (ex, et, em, ea, ep, long, type) (attribute-here s at h (attribute-fits s at r e d q) (rw long at l) g2)

pub ruleset read-laws = (attribute-end, read-few, read_low, read-long, read_here)

-- the part of a list from start to end
module _ (s : List ℕ) (a e : ℕ) where
  pub part_in : a ≤ e → e ≤ length s → take (e - a) (drop a s) ≡ part_of s a e
  unfolding part_of
  part_in h g = simp (le-leb _ _ h, le-leb _ _ g)

  pub part-past : a ≤ e → length s < e → [] ≡ part_of s a e
  unfolding part_of
  part-past h g = simp (le-leb _ _ h, lt-leb _ _ g)

  pub part-back : e < a → [] ≡ part_of s a e
  unfolding part_of
  part-back h = simp (lt-leb _ _ h)

-- where an attribute stands: behind its header, inside its parent, and before the next, which stands less than four bytes behind its end
abbrev pub Bounded : List ℕ → ℕ → AttributeRead → Type 0
Bounded s at R.End = length s ≤ at
Bounded s at R.Broken = at < length s
Bounded s at (R.Attribute x) =
    (x.start ≡ at + 4) × (x.end ≡ at + u16_at s at) × (x.start ≤ x.end) × (x.end ≤ x.next) × (x.next ≤ length s) × (x.next < x.end + 4)

pub bounded : (s : List ℕ) (at : ℕ) → Bounded s at (attribute_at s at)
bounded s at =
    ⊎_elim
    (λ h. ⊎_elim
    (λ f. rw (← attribute-few s at h f) h)
    (λ f. ⊎_elim
    (λ l. rw (← attribute-low s at h f l) h)
    (λ l. ⊎_elim
    (λ g. rw (← attribute-long s at h f l g) h)
    (λ g. rw (← attribute-here s at h f l g) (omega arith))
    (lt-or-ge (length s) (at + u16_at s at)))
    (lt-or-ge (u16_at s at) 4))
    (lt-or-ge (length s) (at + 4)))
    (λ h. rw (← attribute-end s at h) h)
    (lt-or-ge at (length s))

-- as far as what follows agrees
on_same : (s : List ℕ) (at : ℕ) (r : AttributeRead) (f g : ℕ → Attributes) → Bounded s at r
    → ((n : ℕ) → at < n → n ≤ length s → f n ≡ g n) → on_read r at f ≡ on_read r at g
on_same s at R.End f g b p = refl
on_same s at R.Broken f g b p = refl
on_same s at (R.Attribute x) f g b p = ap (attribute x.kind x.bits x.start x.end) (p x.next (omega arith) (omega arith))

-- a larger bound on the count changes nothing
enough : (m n : ℕ) (s : List ℕ) (at : ℕ) → length s ≤ m + at → length s ≤ n + at → attributes_up_to (suc m) s at ≡ attributes_up_to (suc n) s at
unfolding attributes_up_to
enough zero n s at h g = on_same s at (attribute_at s at) _ _ (bounded s at) (λ k l u. absurd (omega arith))
enough (suc m) zero s at h g = on_same s at (attribute_at s at) _ _ (bounded s at) (λ k l u. absurd (omega arith))
enough (suc m) (suc n) s at h g = on_same s at (attribute_at s at) _ _ (bounded s at) (λ k l u. enough m n s k (omega arith) (omega arith))

-- the attributes from a place on: the one that is read there, and then those from the next place on
pub attributes-step : (s : List ℕ) (at : ℕ) → attributes s at ≡ on_read (attribute_at s at) at (attributes s)
unfolding attributes attributes_up_to
attributes-step s at = on_same s at (attribute_at s at) _ _ (bounded s at) (λ k l u. rest (length s) k refl l u)
  where
    rest : (m k : ℕ) → length s ≡ m → at < k → k ≤ length s → attributes_up_to m s k ≡ attributes_up_to (suc (length s)) s k
    rest zero k e l u = absurd (omega arith)
    rest (suc m) k e l u = enough m (length s) s k (omega arith) (omega arith)
