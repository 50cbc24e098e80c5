-- Laws of the error message: one for the return of each writer.
use Prim.Native.Nat.{ℕ, ◌+◌, ◌-◌, ◌≤◌}
use mathlib.Core.Path.{◌≡◌, refl, sym, ap, ◌∙◌}
use mathlib.Core.List.{List, ◌++◌, append_assoc, append-nil}
use native.Mathlib.Omega.{arith}
use borrow.Rule.Slice.PartMut.{put_mid}
use lib.ListN.{length, take, drop, length-append}
use lib.Seq.{length-take-le}
use Rattle.basics.specs.Numbers.{le32, u32_at}
use Rattle.netlink_headers.specs.declared.headers.MessageHeader.{MessageHeader}
use Rattle.basics.specs.Put.{put}
use Rattle.page.specs.Page.{Wrote}
use Rattle.netlink_write.specs.Headers.{message_header_bytes}
use Rattle.netlink_write.specs.Attributes.{attr}
use Rattle.netlink_error.specs.Error.{detail_bytes, flags_of, negative, error_header, error_start, error_message}
use Rattle.netlink_error.specs.declared.Detail.{Detail}
use Rattle.netlink_error.specs.declared.Detail.TheVariants.{Nothing, Offset, MissTop, MissIn}
use Rattle.basics.proofs.Put.{put-nil, then-rest}
use Rattle.page.proofs.Page.{then-sized}
use Rattle.netlink_write.proofs.headers.Laws.{length-message-header}

module _ (d : Detail) where
  pub flags-none : d ≡ Nothing → 256 ≡ flags_of d
  unfolding flags_of
  flags-none e = rw e

  pub flags-offset : (at : ℕ) → d ≡ Offset at → 768 ≡ flags_of d
  unfolding flags_of
  flags-offset at e = rw e

  pub flags-top : (kind : ℕ) → d ≡ MissTop kind → 768 ≡ flags_of d
  unfolding flags_of
  flags-top kind e = rw e

  pub flags-in : (kind nest : ℕ) → d ≡ MissIn kind nest → 768 ≡ flags_of d
  unfolding flags_of
  flags-in kind nest e = rw e

pub ruleset flags-laws = (flags-none, flags-offset, flags-top, flags-in)

module _ (d : Detail) (P : List ℕ) where
  pub detail-none : d ≡ Nothing → Wrote (detail_bytes d) P P 0
  unfolding detail_bytes
  detail-none e = rw e (record { count = refl; page = sym (put-nil P) })

  pub detail-offset : (at : ℕ) (Q : List ℕ) (r : ℕ) → d ≡ Offset at → Wrote (attr 2 (le32 at)) P Q r → Wrote (detail_bytes d) P Q r
  unfolding detail_bytes
  detail-offset at Q r e w = rw e w

  pub detail-top : (kind : ℕ) (Q : List ℕ) (r : ℕ) → d ≡ MissTop kind → Wrote (attr 5 (le32 kind)) P Q r → Wrote (detail_bytes d) P Q r
  unfolding detail_bytes
  detail-top kind Q r e w = rw e w

  pub detail-in : (kind nest : ℕ) (Q R : List ℕ) (k r : ℕ) → d ≡ MissIn kind nest → 16 ≤ length P → k ≡ 8 → Wrote (attr 5 (le32 kind)) P Q k
      → Wrote (attr 6 (le32 nest)) (take (length Q - 8) (drop 8 Q)) R r → Wrote (detail_bytes d) P (put_mid 8 (length Q - 8) Q R) (r + 8)
  unfolding detail_bytes
  detail-in kind nest Q R k r e room ek q w =
      let one = attr 5 (le32 kind) in
      let two = attr 6 (le32 nest) in
      rw e
      (record {
        count = omega (arith, q.count, w.count, length-append one two);
        page = then-rest P one two 8 (sym q.count ∙ ek) (omega (arith, q.count)) q.page w.page;
      })

pub length-start : (request : List ℕ) (errno flags total : ℕ) → 16 ≤ length request → length (error_start request errno flags total) ≡ 36
unfolding error_start
length-start request errno flags total fits =
    let header = message_header_bytes (error_header request flags total) in
    omega (arith, length-take-le 16 request fits, length-message-header (error_header request flags total), length-append header (le32 (negative errno) ++ take 16 request), length-append (le32 (negative errno)) (take 16 request))

-- header, errno, the request's header
-- an error message to a request
pub length-error : (m : List ℕ) → 16 ≤ length m → (errno : ℕ) (d : Detail) → length (error_message m errno d) ≡ length (detail_bytes d) + 36
unfolding error_message
length-error m long errno d =
    let total = length (detail_bytes d) + 36 in
    omega (arith, length-append (error_start m errno (flags_of d) total) (detail_bytes d), length-start m errno (flags_of d) total long)

pub start-put : (P request A B C : List ℕ) (errno flags total s p e : ℕ) → 36 ≤ length P → 16 ≤ length request → s ≡ u32_at request 8
    → p ≡ u32_at request 12 → e ≡ negative errno
    → A ≡ put P (message_header_bytes (record { length = total; kind = 2; flags = flags; sequence = s; port = p }))
    → B ≡ put (take (length A - 16) (drop 16 A)) (le32 e)
    → C ≡ put (take (length (put_mid 16 (length A - 16) A B) - 20) (drop 20 (put_mid 16 (length A - 16) A B))) (take 16 request)
    → put_mid 20 (length (put_mid 16 (length A - 16) A B) - 20) (put_mid 16 (length A - 16) A B) C ≡ put P (error_start request errno flags total)
unfolding error_start error_header
start-put P request A B C errno flags total s p e room fits es ep ee a b c =
    let header : MessageHeader = record { length = total; kind = 2; flags = flags; sequence = s; port = p } in
    let hs = message_header_bytes header in
    let l = length-message-header header in
    let l20 : length (hs ++ le32 e) ≡ 20 = omega (arith, l, length-append hs (le32 e)) in
    let two = then-rest P hs (le32 e) 16 l (omega (arith, l)) a b in
    rw (← es, ← ep, ← ee)
    (then-rest P (hs ++ le32 e) (take 16 request) 20 l20 (omega (arith, l20)) two c ∙ ap (put P) (append_assoc hs (le32 e) (take 16 request)))

-- the detail past the 36 bytes, then these
pub error-wrote : (P request B C : List ℕ) (errno : ℕ) (d : Detail) (n f : ℕ) → 52 ≤ length P → 16 ≤ length request → f ≡ flags_of d
    → Wrote (detail_bytes d) (take (length P - 36) (drop 36 P)) B n → C ≡ put (put_mid 36 (length P - 36) P B) (error_start request errno f (n + 36))
    → Wrote (error_message request errno d) P C (n + 36)
unfolding error_message
error-wrote P request B C errno d n f room fits ef w q =
    let start : ℕ → List ℕ = λ k. error_start request errno f (k + 36) in
    let l = length-start request errno f (length (detail_bytes d) + 36) fits in
    rw (← ef)
    (record {
      count = omega (arith, w.count, l, length-append (start (length (detail_bytes d))) (detail_bytes d));
      page = then-sized P start (detail_bytes d) 36 n l (omega arith) w.count w.page q;
    })

-- an ACK has no detail
pub ack-wrote : (P request C : List ℕ) → 16 ≤ length request → C ≡ put P (error_start request 0 256 36) → Wrote (error_message request 0 Nothing) P C 36
unfolding error_message detail_bytes flags_of
ack-wrote P request C fits q =
    rw (append-nil (error_start request 0 256 36)) (record { count = sym (length-start request 0 256 36 fits); page = q })
