-- Laws of the headers: one for each way a reading function returns, and what a caller learns of a header that was read.
use Prim.Native.Nat.{ℕ, ◌+◌, ◌≤◌, ◌<◌}
use mathlib.Core.Path.{◌≡◌, refl}
use mathlib.Core.List.{List}
use mathlib.Core.Logic.{⊎_elim}
use lib.ListN.{length}
use native.Mathlib.Omega.{arith}
use borrow.Author.Tests.{le-leb, lt-leb}
use Rattle.basics.proofs.Order.{lt-or-ge}
use Rattle.basics.specs.Numbers.{byte_at, u16_at, u32_at}
use Rattle.netlink_headers.specs.Headers.{message_header, message_header_at, generic_header_at, attribute_header, attribute_header_at}
use Rattle.netlink_headers.specs.declared.headers.MessageHeader.{MessageHeader}
use Rattle.netlink_headers.specs.declared.headers.MessageHeaderRead.{MessageHeaderRead}
use Rattle.netlink_headers.specs.declared.headers.MessageHeaderRead.TheVariants as M
use Rattle.netlink_headers.specs.declared.headers.GenericHeaderRead.TheVariants as G
use Rattle.netlink_headers.specs.declared.headers.AttributeHeader.{AttributeHeader}
use Rattle.netlink_headers.specs.declared.headers.AttributeHeaderRead.{AttributeHeaderRead}
use Rattle.netlink_headers.specs.declared.headers.AttributeHeaderRead.TheVariants as A

module _ (s : List ℕ) (at : ℕ) where
  pub message-short : length s < at + 16 → M.Short ≡ message_header_at s at
  unfolding message_header_at
  message-short h = simp (lt-leb _ _ h)

  pub message-whole : (l k f q p : ℕ) → at + 16 ≤ length s → l ≡ u32_at s at → k ≡ u16_at s (at + 4) → f ≡ u16_at s (at + 6)
      → q ≡ u32_at s (at + 8) → p ≡ u32_at s (at + 12)
      → M.Header (record { length = l; kind = k; flags = f; sequence = q; port = p }) ≡ message_header_at s at
  unfolding message_header_at
  message-whole l k f q p h el ek ef eq ep = rw (el, ek, ef, eq, ep) (simp (le-leb _ _ h))

  pub generic-short : length s < at + 4 → G.Short ≡ generic_header_at s at
  unfolding generic_header_at
  generic-short h = simp (lt-leb _ _ h)

  pub generic-whole : (c v r : ℕ) → at + 4 ≤ length s → c ≡ byte_at s at → v ≡ byte_at s (at + 1) → r ≡ u16_at s (at + 2)
      → G.Header (record { command = c; version = v; reserved = r }) ≡ generic_header_at s at
  unfolding generic_header_at
  generic-whole c v r h ec ev er = rw (ec, ev, er) (simp (le-leb _ _ h))

  pub attribute-short : length s < at + 4 → A.Short ≡ attribute_header_at s at
  unfolding attribute_header_at
  attribute-short h = simp (lt-leb _ _ h)

  pub attribute-whole : (l k : ℕ) → at + 4 ≤ length s → l ≡ u16_at s at → k ≡ u16_at s (at + 2)
      → A.Header (record { length = l; kind = k }) ≡ attribute_header_at s at
  unfolding attribute_header_at
  attribute-whole l k h el ek = rw (el, ek) (simp (le-leb _ _ h))

  -- what a caller learns
  module _ (r : MessageHeaderRead) (e : r ≡ message_header_at s at) where
    pub message-cut : r ≡ M.Short → length s < at + 16
    message-cut q = ⊎_elim (λ l. l) (λ g. absurd (both (message-whole _ _ _ _ _ g refl refl refl refl refl))) (lt-or-ge (length s) (at + 16))
      where
        both : M.Header (message_header s at) ≡ message_header_at s at → ⊥
        both w = let z : ◌≡◌ {A = ℕ} 0 1 = cc in omega arith

    module _ (h : MessageHeader) (q : r ≡ M.Header h) where
      pub message-fits : at + 16 ≤ length s
      message-fits = ⊎_elim (λ l. absurd (both (message-short l))) (λ g. g) (lt-or-ge (length s) (at + 16))
        where
          both : M.Short ≡ message_header_at s at → ⊥
          both w = let z : ◌≡◌ {A = ℕ} 0 1 = cc in omega arith

      pub message-is : h ≡ message_header s at
      message-is = let w = message-whole _ _ _ _ _ message-fits refl refl refl refl refl in cc

  module _ (r : AttributeHeaderRead) (e : r ≡ attribute_header_at s at) where
    pub attribute-cut : r ≡ A.Short → length s < at + 4
    attribute-cut q = ⊎_elim (λ l. l) (λ g. absurd (both (attribute-whole _ _ g refl refl))) (lt-or-ge (length s) (at + 4))
      where
        both : A.Header (attribute_header s at) ≡ attribute_header_at s at → ⊥
        both w = let z : ◌≡◌ {A = ℕ} 0 1 = cc in omega arith

    module _ (h : AttributeHeader) (q : r ≡ A.Header h) where
      pub attribute-fits : at + 4 ≤ length s
      attribute-fits = ⊎_elim (λ l. absurd (both (attribute-short l))) (λ g. g) (lt-or-ge (length s) (at + 4))
        where
          both : A.Short ≡ attribute_header_at s at → ⊥
          both w = let z : ◌≡◌ {A = ℕ} 0 1 = cc in omega arith

      pub attribute-is : h ≡ attribute_header s at
      attribute-is = let w = attribute-whole _ _ attribute-fits refl refl in cc
