-- Laws of the headers: their sizes, and one for the return of each writer.
use Prim.Native.Nat.{ℕ, ◌-◌, ◌≤◌}
use mathlib.Core.Path.{◌≡◌, refl}
use mathlib.Core.List.{List, ◌++◌}
use native.Mathlib.Omega.{arith}
use borrow.Rule.Slice.PartMut.{put_mid}
use lib.ListN.{length, take, drop}
use Rattle.basics.specs.Numbers.{le16, le32}
use Rattle.netlink_headers.specs.declared.headers.MessageHeader.{MessageHeader}
use Rattle.netlink_headers.specs.declared.headers.GenericHeader.{GenericHeader}
use Rattle.basics.specs.Put.{put}
use Rattle.netlink_write.specs.Headers.{message_header_bytes, generic_header_bytes, attribute_header_bytes}
use Rattle.basics.proofs.Put.{then-rest}

pub length-message-header : (h : MessageHeader) → length (message_header_bytes h) ≡ 16
unfolding message_header_bytes
length-message-header h = refl

pub length-generic-header : (h : GenericHeader) → length (generic_header_bytes h) ≡ 4
unfolding generic_header_bytes
length-generic-header h = refl

pub length-attribute-header : (stated kind : ℕ) → length (attribute_header_bytes stated kind) ≡ 4
unfolding attribute_header_bytes
length-attribute-header stated kind = refl

-- one number, then another
pub two-u16-put : (P A B : List ℕ) (first second : ℕ) → 4 ≤ length P → A ≡ put P (le16 first)
    → B ≡ put (take (length A - 2) (drop 2 A)) (le16 second) → put_mid 2 (length A - 2) A B ≡ put P (le16 first ++ le16 second)
two-u16-put P A B first second room a b = then-rest P (le16 first) (le16 second) 2 refl (omega arith) a b

pub two-u32-put : (P A B : List ℕ) (first second : ℕ) → 8 ≤ length P → A ≡ put P (le32 first)
    → B ≡ put (take (length A - 4) (drop 4 A)) (le32 second) → put_mid 4 (length A - 4) A B ≡ put P (le32 first ++ le32 second)
two-u32-put P A B first second room a b = then-rest P (le32 first) (le32 second) 4 refl (omega arith) a b

pub attribute-header-put : (P A : List ℕ) (stated kind : ℕ) → A ≡ put P (le16 stated ++ le16 kind) → A ≡ put P (attribute_header_bytes stated kind)
unfolding attribute_header_bytes
attribute-header-put P A stated kind a = a

-- the length, the type and the flags, the sequence number and the port
pub message-header-put : (P A B C : List ℕ) (h : MessageHeader) → 16 ≤ length P → A ≡ put P (le32 h.length)
    → B ≡ put (take (length A - 4) (drop 4 A)) (le16 h.kind ++ le16 h.flags)
    → C ≡ put (take (length (put_mid 4 (length A - 4) A B) - 8) (drop 8 (put_mid 4 (length A - 4) A B))) (le32 h.sequence ++ le32 h.port)
    → put_mid 8 (length (put_mid 4 (length A - 4) A B) - 8) (put_mid 4 (length A - 4) A B) C ≡ put P (message_header_bytes h)
unfolding message_header_bytes
message-header-put P A B C h room a b c =
    let half = le16 h.kind ++ le16 h.flags in
    then-rest P (le32 h.length ++ half) (le32 h.sequence ++ le32 h.port) 8 refl (omega arith) (then-rest P (le32 h.length) half 4 refl (omega arith) a b) c

pub ruleset header_laws = (two-u16-put, two-u32-put, attribute-header-put, message-header-put)
