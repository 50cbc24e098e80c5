-- What is written is whole messages, each as long as its header states.
use Prim.Native.Nat.{ℕ, ◌+◌, ◌/◌, ◌%◌, ◌≤◌, ◌<◌}
use mathlib.Core.Path.{◌≡◌, refl, sym, ◌∙◌}
use mathlib.Core.List.{List, [], ◌++◌, append-nil}
use mathlib.Core.Bool.{Bool, true, false, cond}
use lib.ListN.{length, length-append}
use lib.Dec.{eqb}
use native.Mathlib.Omega.{arith}
use Rattle.basics.specs.Numbers.{u32_at, le32}
use Rattle.basics.proofs.Numbers.{digits32}
use Rattle.bits.specs.Set.{words_for}
use Rattle.entries.specs.Entry.{count}
use Rattle.names.specs.Rule.{names_right}
use Rattle.netlink.specs.Policy.{nul_at}
use Rattle.netlink_headers.specs.declared.headers.MessageHeader.{MessageHeader}
use Rattle.netlink_write.specs.Attributes.{attr}
use Rattle.netlink_error.specs.Error.{detail_bytes, error_header, error_start, error_message}
use Rattle.netlink_write.specs.Headers.{message_header_bytes}
use Rattle.netlink_dump.specs.Dump.{done_header, done_message}
use Rattle.netlink_dump.proofs.Laws.{done-long}
use Rattle.netlink_error.specs.declared.Detail.{Detail}
use Rattle.netlink_error.specs.declared.Detail.TheVariants.{Nothing, Offset, MissTop, MissIn}
use Rattle.netlink_write.proofs.attributes.Laws.{length-attr}
use Rattle.netlink_error.proofs.Laws.{length-error}
use Rattle.reply.proofs.message.Lengths.{length-reply, reply-whole, longest}
use Rattle.reply.specs.Message.{headers_bytes, Content, attributes_bytes, reply_bytes}
use Rattle.reply.specs.declared.message.Heading.{Heading}
use Rattle.response.specs.Answer.{ack_bytes}
use Rattle.demands.specs.Answer.{Messages, CountedTo, Counted, longest_answer}
use Rattle.demands.specs.Answer.Messages.{none, next}

detail-long : (d : Detail) → (length (detail_bytes d) ≤ 16) × (length (detail_bytes d) % 4 ≡ 0)
unfolding detail_bytes
detail-long Nothing = (omega arith, refl)
detail-long (Offset at) = (omega (arith, length-attr 2 (le32 at)), omega (arith, length-attr 2 (le32 at)))
detail-long (MissTop kind) = (omega (arith, length-attr 5 (le32 kind)), omega (arith, length-attr 5 (le32 kind)))
detail-long (MissIn kind nest) =
    let whole = length-append (attr 5 (le32 kind)) (attr 6 (le32 nest)) in
    let first = length-attr 5 (le32 kind) in
    let second = length-attr 6 (le32 nest) in
    (omega arith, omega arith)

-- an error message to a request, and the ACK
module _ (m : List ℕ) (long : 16 ≤ length m) (errno : ℕ) (d : Detail) where
  error-stated : u32_at (error_message m errno d) 0 ≡ length (error_message m errno d)
  unfolding error_message error_start error_header message_header_bytes u32_at
  error-stated = digits32 (length (detail_bytes d) + 36) (let l = detail-long d in let a = l.0 in omega arith) ∙ sym (length-error m long errno d)

  one : Messages (error_message m errno d)
  one = rw (← append-nil (error_message m errno d)) (next (error_message m errno d) [] (let e = length-error m long errno d in omega arith) error-stated none)

  pub error-counted : Counted (error_message m errno d)
  error-counted =
      let l = detail-long d in
      let a = l.0 in
      let b = l.1 in
      let e = length-error m long errno d in
      record { messages = one; words = omega arith; most = omega arith }

pub none-counted : Counted []
none-counted = record { messages = none; words = refl; most = omega arith }

ack-long : (m : List ℕ) → 16 ≤ length m → length (error_message m 0 Nothing) ≤ 36
unfolding detail_bytes
ack-long m long = let e : length (error_message m 0 Nothing) ≡ 36 = length-error m long 0 Nothing in omega arith

pub ack-counted : (m : List ℕ) (h : MessageHeader) → 16 ≤ length m → Counted (ack_bytes m h) × (length (ack_bytes m h) ≤ 36)
unfolding ack_bytes
ack-counted m h long = go (eqb (h.flags / 4 % 2) 1)
  where
    go : (t : Bool) → Counted (cond t (error_message m 0 Nothing) []) × (length (cond t (error_message m 0 Nothing) []) ≤ 36)
    go true = (error-counted m long 0 Nothing, ack-long m long)
    go false = (none-counted, omega arith)

-- DONE
done-stated : (h : MessageHeader) → u32_at (done_message h) 0 ≡ 20
unfolding done_message done_header message_header_bytes u32_at
done-stated h = refl

pub done-counted : (h : MessageHeader) → Counted (done_message h)
done-counted h =
    let long = done-long h in
    record { messages = rw (← append-nil (done_message h)) (next (done_message h) [] (omega arith) (done-stated h ∙ sym long) none); words = omega arith; most = omega arith }

-- a reply, and messages after it
module _ (h : Heading) (content : Content) (port : nul_at content.name < 16) (right : names_right content.names ≡ true)
    (en : count content.names ≡ content.bits) (ew : length content.words ≡ words_for content.bits) where
  reply-stated : u32_at (reply_bytes h content) 0 ≡ length (reply_bytes h content)
  unfolding reply_bytes headers_bytes message_header_bytes u32_at
  reply-stated =
      let e = length-reply h content in
      let l = longest h content port right en ew in
      digits32 (length (attributes_bytes content) + 20) (omega arith) ∙ sym e

  pub reply-counted : (rest : List ℕ) → Counted rest → length rest ≤ 36 → Counted (reply_bytes h content ++ rest)
  reply-counted rest counted few =
      let reply = reply_bytes h content in
      let most = longest h content port right en ew in
      let whole = reply-whole h content in
      let all = length-append reply rest in
      let after = counted.words in
      record { messages = next reply rest (let e = length-reply h content in omega arith) reply-stated counted.messages; words = omega arith; most = omega arith }

-- none is longer than the longest answer
pub within-longest : (strset : Bool) {bytes : List ℕ} → Counted bytes → CountedTo (longest_answer strset) bytes
unfolding longest_answer
within-longest true counted = let few = counted.most in record { messages = counted.messages; words = counted.words; most = omega arith }
within-longest false counted = counted
