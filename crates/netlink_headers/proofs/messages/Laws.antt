-- Laws of reading a message: one for each return of read_message.
use Prim.Native.Nat.{ℕ, ◌+◌, ◌-◌, ◌≤◌, ◌<◌, min}
use mathlib.Core.Path.{◌≡◌, ap}
use mathlib.Core.List.{List}
use lib.ListN.{length}
use native.Mathlib.Omega.{arith}
use borrow.Author.Tests.{lt-ltb, le-ltb, eq-eqb, ne_eqb}
use Rattle.basics.specs.Numbers.{u32_at}
use Rattle.netlink_headers.specs.Lengths.{round_up4}
use Rattle.netlink_headers.specs.Headers.{message_header_at}
use Rattle.netlink_headers.specs.Messages.{message_at}
use Rattle.netlink_headers.specs.declared.headers.MessageHeader.{MessageHeader}
use Rattle.netlink_headers.specs.declared.headers.MessageHeaderRead.{MessageHeaderRead}
use Rattle.netlink_headers.specs.declared.headers.MessageHeaderRead.TheVariants as M
use Rattle.netlink_headers.specs.declared.messages.MessageRead.TheVariants.{Message, Misstated, Cut, AtEnd, Outside}
use Rattle.netlink_headers.proofs.headers.Laws.{message-cut, message-fits, message-is}

module _ (s : List ℕ) (at : ℕ) where
  pub message-outside : length s < at → Outside ≡ message_at s at
  unfolding message_at
  message-outside h = simp (lt-ltb _ _ h)

  module _ (h : at ≤ length s) where
    pub message-end : at ≡ length s → AtEnd ≡ message_at s at
    unfolding message_at
    message-end e = simp (le-ltb _ _ h, eq-eqb _ _ e)

    module _ (n : at ≡ length s → ⊥) (r : MessageHeaderRead) (e : r ≡ message_header_at s at) where
      pub message-few : r ≡ M.Short → Cut ≡ message_at s at
      unfolding message_at
      message-few q = simp (le-ltb _ _ h, ne_eqb _ _ n, lt-ltb _ _ (message-cut s at r e q))

      module _ (d : MessageHeader) (q : r ≡ M.Header d) where
        same : d.length ≡ u32_at s at
        same = ap (λ (x : MessageHeader). x.length) (message-is s at r e d q)

        pub message-low : d.length < 16 → Misstated ≡ message_at s at
        unfolding message_at
        message-low l =
            simp (le-ltb _ _ h, ne_eqb _ _ n, le-ltb _ _ (message-fits s at r e d q), lt-ltb _ _ (rw same at l))

        module _ (l : 16 ≤ d.length) where
          pub message-long : length s - at < d.length → Misstated ≡ message_at s at
          unfolding message_at
          message-long g =
              let g2 : length s < at + u32_at s at = omega (arith, same) in
              simp (le-ltb _ _ h, ne_eqb _ _ n, le-ltb _ _ (message-fits s at r e d q), le-ltb _ _ (rw same at l), lt-ltb _ _ g2)

          pub message-here : (p m t : ℕ) → d.length ≤ length s - at → p ≡ round_up4 d.length → m ≡ at + d.length → t ≡ min (at + p) (length s)
              → Message d m t ≡ message_at s at
          unfolding message_at
          message-here p m t g ep em et =
              let g2 : at + u32_at s at ≤ length s = omega (arith, same) in
              rw (et, em, ep, message-is s at r e d q)
              (simp (le-ltb _ _ h, ne_eqb _ _ n, le-ltb _ _ (message-fits s at r e d q), le-ltb _ _ (rw same at l), le-ltb _ _ g2))

pub ruleset message-laws = (message-outside, message-end, message-few, message-low, message-long, message-here)
