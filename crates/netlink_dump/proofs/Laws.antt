-- Laws of the message that ends a dump.
use Prim.Native.Nat.{ℕ, ◌-◌, ◌≤◌}
use mathlib.Core.Path.{◌≡◌, sym, ◌∙◌}
use mathlib.Core.List.{List}
use native.Mathlib.Omega.{arith}
use borrow.Rule.Slice.PartMut.{put_mid}
use lib.ListN.{length, take, drop, length-append}
use Rattle.basics.specs.Numbers.{le32}
use Rattle.basics.specs.Put.{put}
use Rattle.basics.proofs.Put.{then-rest}
use Rattle.netlink_headers.specs.declared.headers.MessageHeader.{MessageHeader}
use Rattle.page.specs.Page.{Wrote}
use Rattle.netlink_write.specs.Headers.{message_header_bytes}
use Rattle.netlink_write.proofs.headers.Laws.{length-message-header}
use Rattle.netlink_dump.specs.Dump.{multi, done_header, done_message}

-- "20 bytes"
pub done-long : (h : MessageHeader) → length (done_message h) ≡ 20
unfolding done_message
done-long h = length-append (message_header_bytes (done_header h)) (le32 0) ∙ omega (arith, length-message-header (done_header h))

-- the header, then the 0
pub done-wrote : (h : MessageHeader) (P A B : List ℕ) → 20 ≤ length P
    → A ≡ put P (message_header_bytes (record { length = 20; kind = 3; flags = 2; sequence = h.sequence; port = h.port }))
    → B ≡ put (take (length A - 16) (drop 16 A)) (le32 0) → Wrote (done_message h) P (put_mid 16 (length A - 16) A B) 20
unfolding done_message done_header
done-wrote h P A B room a b =
    let header : MessageHeader = record { length = 20; kind = 3; flags = multi; sequence = h.sequence; port = h.port } in
    let l = length-message-header header in
    record {
      count = sym (length-append (message_header_bytes header) (le32 0) ∙ omega (arith, l));
      page = then-rest P (message_header_bytes header) (le32 0) 16 l (omega (arith, l)) a b;
    }
