-- Laws of writing the message: its two headers, its two attributes, and the headers in front of the attributes that they count.
use Prim.Native.Nat.{ℕ, ◌+◌, ◌-◌, ◌≤◌}
use mathlib.Core.Path.{◌≡◌}
use mathlib.Core.List.{List}
use lib.ListN.{length, take, drop, length-append}
use native.Mathlib.Omega.{arith}
use borrow.Rule.Slice.PartMut.{put_mid}
use Rattle.basics.specs.Put.{put}
use Rattle.basics.proofs.Put.{then-rest}
use Rattle.page.specs.Page.{Wrote}
use Rattle.netlink_write.specs.Headers.{message_header_bytes, generic_header_bytes}
use Rattle.index_name.specs.IndexName.{index_nest}
use Rattle.page.proofs.Page.{wrote_then, then-sized}
use Rattle.netlink_write.proofs.headers.Laws.{length-message-header, length-generic-header}
use Rattle.bitset_reply.specs.Set.{set_bytes}
use Rattle.reply.specs.Message.{reply_message_header, reply_generic_header, headers_bytes, Content, attributes_bytes, reply_bytes}
use Rattle.reply.specs.declared.message.Heading.{Heading}

pub headers-put : (P A B : List ℕ) (h : Heading) (total : ℕ) → 20 ≤ length P → A ≡ put P (message_header_bytes (reply_message_header h total))
    → B ≡ put (take (length A - 16) (drop 16 A)) (generic_header_bytes (reply_generic_header h)) → put_mid 16 (length A - 16) A B ≡ put P (headers_bytes h total)
unfolding headers_bytes
headers-put P A B h total room a b =
    let long = length-message-header (reply_message_header h total) in
    then-rest P (message_header_bytes (reply_message_header h total)) (generic_header_bytes (reply_generic_header h)) 16 long (omega arith) a b

pub length-headers : (h : Heading) (total : ℕ) → length (headers_bytes h total) ≡ 20
unfolding headers_bytes
length-headers h total = simp (length-append, length-message-header, length-generic-header)

module _ (content : Content) where
  pub attributes-wrote : (P A B : List ℕ) (p s : ℕ) → length content.name ≤ 16 → 26680 ≤ length P → p ≤ length content.name + 20
      → Wrote (index_nest 1 content.index content.name) P A p
      → Wrote (set_bytes content.compact content.names content.words content.bits) (take (length A - p) (drop p A)) B s
      → Wrote (attributes_bytes content) P (put_mid p (length A - p) A B) (p + s)
  unfolding attributes_bytes
  attributes-wrote P A B p s short room most a b =
      wrote_then P A B (index_nest 1 content.index content.name) (set_bytes content.compact content.names content.words content.bits) p s
      (omega arith) a b

  pub reply-wrote : (P A B : List ℕ) (h : Heading) (k r : ℕ) → 26700 ≤ length P
      → Wrote (attributes_bytes content) (take (length P - 20) (drop 20 P)) A k → r ≡ k + 20
      → B ≡ put (put_mid 20 (length P - 20) P A) (headers_bytes h (k + 20)) → Wrote (reply_bytes h content) P B r
  unfolding reply_bytes
  reply-wrote P A B h k r room w er q =
      let body = attributes_bytes content in
      let front : ℕ → List ℕ = λ j. headers_bytes h (j + 20) in
      record {
        count = omega (arith, w.count, length-append (front (length body)) body, length-headers h (length body + 20));
        page = then-sized P front body 20 k (length-headers h (length body + 20)) (omega arith) w.count w.page q;
      }
