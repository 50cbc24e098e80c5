-- Two lists of bytes that are as long: what is read in them is the same where the bytes are, and each header being the same gives the same attributes.
--     byte-in            a byte of a part is the byte at its place in the list
--     part-of-part       a part of the bytes up to a place is that part of all
--     attributes-same    the attributes from a place on, whatever is said of their payloads
use Prim.Native.Nat.{ℕ, zero, suc, ◌+◌, ◌-◌, ◌≤◌, ◌<◌, min}
use mathlib.Core.Path.{◌≡◌, refl, sym, ap, ◌∙◌}
use mathlib.Core.List.{List, []}
use mathlib.Core.Logic.{⊎_elim}
use lib.ListN.{length, get_or, drop, length-take, length-drop}
use lib.Seq.{get_or-take, get_or-drop, ext_get_or}
use native.Mathlib.Omega.{arith}
use borrow.Author.Tests.{lt-ltb}
use Rattle.basics.specs.Numbers.{u16_at, u32_at}
use Rattle.basics.proofs.Order.{lt-or-ge}
use Rattle.netlink_attributes.specs.Attributes.{attribute_at, part_of, Attributes, on_read, attributes}
use Rattle.netlink_attributes.specs.Attributes.Attributes.{attribute}
use Rattle.netlink_attributes.specs.declared.AttributeRead.{AttributeRead}
use Rattle.netlink_attributes.specs.declared.AttributeRead.TheVariants as A
use Rattle.netlink_attributes.proofs.Laws.{part_in, Bounded, bounded, attributes-step}
use Rattle.demands.specs.Padding.{SameBytes, Payloads, EachAgrees}

-- a part inside a list: its length and its bytes; one from 0 to 0 is empty
pub part-long : (s : List ℕ) (a e : ℕ) → a ≤ e → e ≤ length s → length (part_of s a e) ≡ e - a
part-long s a e h g = rw (← part_in s a e h g) (simp (length-take, length-drop) (omega arith))

pub byte-in : (s : List ℕ) (a e k : ℕ) → a ≤ e → e ≤ length s → k < e - a → get_or (part_of s a e) k 0 ≡ get_or s (a + k) 0
byte-in s a e k h g l = rw (← part_in s a e h g) (get_or-take (e - a) (drop a s) k 0 l ∙ get_or-drop a s k 0)

pub part_none : (s : List ℕ) → part_of s 0 0 ≡ []
part_none s = sym (part_in s 0 0 (omega arith) (omega arith))

pub part-of-part : (s : List ℕ) (c a e : ℕ) → c ≤ length s → a ≤ e → e ≤ c → part_of (part_of s 0 c) a e ≡ part_of s a e
part-of-part s c a e u h g =
    let cut : length (part_of s 0 c) ≡ c - 0 = part-long s 0 c (omega arith) u in
    let one : length (part_of (part_of s 0 c) a e) ≡ e - a = part-long (part_of s 0 c) a e h (omega arith) in
    let two : length (part_of s a e) ≡ e - a = part-long s a e h (omega arith) in
    ext_get_or 0 (part_of (part_of s 0 c) a e) (part_of s a e) (one ∙ sym two)
    (λ i l. byte-in (part_of s 0 c) a e i h (omega arith) (omega arith)
    ∙ byte-in s 0 c (a + i) (omega arith) u (omega arith)
    ∙ ap (λ (n : ℕ). get_or s n 0) (zero-add (a + i))
    ∙ sym (byte-in s a e i h (omega arith) (omega arith)))
  where
    zero-add : (n : ℕ) → 0 + n ≡ n
    zero-add n = omega arith

module _ (s t : List ℕ) (size : length s ≡ length t) where
  -- both cut at one place are as long
  pub cut-long : (c : ℕ) → c ≤ length s → length (part_of s 0 c) ≡ length (part_of t 0 c)
  cut-long c u = part-long s 0 c (omega arith) u ∙ sym (part-long t 0 c (omega arith) (omega arith))

  -- numbers inside a part of the same bytes
  module _ (a e : ℕ) (order : a ≤ e) (inside : e ≤ length s) (same : SameBytes s t a e) where
    byte-same : (i : ℕ) → a ≤ i → i < e → get_or t i 0 ≡ get_or s i 0
    byte-same i h l =
        let k : a + (i - a) ≡ i = omega arith in
        ap (λ (n : ℕ). get_or t n 0) (sym k)
        ∙ sym (byte-in t a e (i - a) order (omega arith) (omega arith))
        ∙ ap (λ (x : List ℕ). get_or x (i - a) 0) (sym same)
        ∙ byte-in s a e (i - a) order inside (omega arith)
        ∙ ap (λ (n : ℕ). get_or s n 0) k

    pub u16-same : (i : ℕ) → a ≤ i → i + 2 ≤ e → u16_at t i ≡ u16_at s i
    unfolding u16_at
    u16-same i h l = rw (byte-same i h (omega arith), byte-same (i + 1) (omega arith) (omega arith))

    pub u32-same : (i : ℕ) → a ≤ i → i + 4 ≤ e → u32_at t i ≡ u32_at s i
    unfolding u32_at
    u32-same i h l =
        rw (
          byte-same i h (omega arith),
          byte-same (i + 1) (omega arith) (omega arith),
          byte-same (i + 2) (omega arith) (omega arith),
          byte-same (i + 3) (omega arith) (omega arith),
        )

  module _ (payloads : Payloads) where
    abbrev Each : Attributes → Type 0
    Each xs = EachAgrees s t payloads xs

    -- the four bytes of a header that stands there whole
    header-same : (at : ℕ) (r : AttributeRead) → Bounded s at r → at + 4 ≤ length s → Each (on_read r at (attributes s)) → SameBytes s t at (at + 4)
    header-same at A.End b u q = absurd (omega arith)
    header-same at A.Broken b u q = let k : min (at + 4) (length s) ≡ at + 4 = omega arith in rw k at q
    header-same at (A.Attribute x) b u q =
        let start = b.0 in
        let place : x.start - 4 ≡ at = omega arith in
        ap (λ (n : ℕ). part_of s n (at + 4)) (sym place)
        ∙ ap (part_of s (x.start - 4)) (sym start)
        ∙ q.0
        ∙ ap (part_of t (x.start - 4)) start
        ∙ ap (λ (n : ℕ). part_of t n (at + 4)) place

    -- one attribute
    attribute-same : (at : ℕ) → Each (on_read (attribute_at s at) at (attributes s)) → attribute_at t at ≡ attribute_at s at
    unfolding attribute_at
    attribute-same at q =
        ⊎_elim
        (λ (f : length s < at + 4). rw (← size, lt-ltb _ _ f))
        (λ (f : at + 4 ≤ length s).
        let u16 = u16-same at (at + 4) (omega arith) f (header-same at (attribute_at s at) (bounded s at) f q) in
        rw (← size, u16 at (omega arith) (omega arith), u16 (at + 2) (omega arith) (omega arith)))
        (lt-or-ge (length s) (at + 4))

    -- as far as what follows agrees
    on-rest : (at : ℕ) (r : AttributeRead) → Bounded s at r → Each (on_read r at (attributes s))
        → ((n : ℕ) → at < n → n ≤ length s → Each (attributes s n) → attributes t n ≡ attributes s n)
        → on_read r at (attributes t) ≡ on_read r at (attributes s)
    on-rest at A.End b q f = refl
    on-rest at A.Broken b q f = refl
    on-rest at (A.Attribute x) b q f =
        ap (attribute x.kind x.bits x.start x.end) (f x.next (omega arith) (omega arith) q.2)

    step : (at : ℕ) → Each (attributes s at) → ((n : ℕ) → at < n → n ≤ length s → Each (attributes s n) → attributes t n ≡ attributes s n)
        → attributes t at ≡ attributes s at
    step at q f =
        let here : Each (on_read (attribute_at s at) at (attributes s)) = rw (attributes-step s at) at q in
        attributes-step t at
        ∙ ap (λ (r : AttributeRead). on_read r at (attributes t)) (attribute-same at here)
        ∙ on-rest at (attribute_at s at) (bounded s at) here f
        ∙ sym (attributes-step s at)

    up_to : (m at : ℕ) → length s ≤ m + at → Each (attributes s at) → attributes t at ≡ attributes s at
    up_to zero at h q = step at q (λ n l u r. absurd (omega arith))
    up_to (suc m) at h q = step at q (λ n l u r. up_to m n (omega arith) r)

    -- the attributes from a place on
    pub attributes-same : (at : ℕ) → Each (attributes s at) → attributes t at ≡ attributes s at
    attributes-same at q = up_to (length s) at (omega arith) q
