-- Document 01, "Sizes on the wire": "Padding has no meaning when read": two datagrams that agree but for paddings (specs/Padding) get the same answer, byte for byte, and
-- leave the same settings. So the bytes between the stated end of an attribute, a nest or the message and what follows it decide nothing.
--     padding-free          the call over words
--     padding-free-bytes    the call over bytes, which C makes
--     padding-free-normal   the normaliser: contents of one length that agree but for paddings are answered alike, and the same bytes are written
use Prim.Native.Nat.{ℕ, ◌+◌, ◌≤◌, ◌<◌, min}
use mathlib.Core.Path.{◌≡◌, refl}
use mathlib.Core.List.{List}
use mathlib.Core.Bool.{Bool, true, false, cond, ◌||◌}
use mathlib.Core.Logic.{⊎_elim}
use lib.ListN.{length}
use lib.Dec.{eqb, ltb}
use native.Mathlib.Omega.{arith}
use borrow.Author.Tests.{lt-ltb}
use Rattle.basics.specs.Numbers.{u32_at}
use Rattle.basics.proofs.Order.{lt-or-ge}
use Rattle.netlink_attributes.specs.Attributes.{part_of}
use Rattle.netlink_headers.specs.Lengths.{round_up4}
use Rattle.netlink_headers.specs.Headers.{message_header}
use Rattle.netlink_headers.specs.Messages.{message_at}
use Rattle.netlink_headers.specs.declared.headers.MessageHeader.{MessageHeader}
use Rattle.netlink_headers.specs.declared.messages.MessageRead.TheVariants.{Message, Misstated, Cut, AtEnd, Outside}
use Rattle.normal.specs.Normal.{normalised}
use Rattle.boxes.specs.Box.{Box, State}
use Rattle.boxes.specs.declared.Call.{Call}
use Rattle.response.specs.Answer.{Outcome}
use Rattle.handler.specs.Call.{message_outcome, on_message, position_outcome, outcome}
use Rattle.handler.specs.Bytes.{Stored, in_words, words_outcome, bytes_outcome}
use Rattle.demands.specs.Call.{message_of}
use Rattle.demands.specs.Padding.{BitsetAgrees, DatagramsAgree, MessagesAgree}
use Rattle.demands.proofs.PaddingAttributes.{u16-same, u32-same}
use Rattle.demands.proofs.PaddingBitset.{bitset-same}
use Rattle.demands.proofs.PaddingMessage.{message-same}

module _ (box : Box) (state : State) (call : Call) where
  abbrev made : List ℕ → MessageHeader → ℕ → ℕ → Outcome State
  made datagram h end next = message_outcome box state call (part_of datagram call.position end) h next

  -- with fewer than 16 bytes left no message is read
  too_few : (f g : MessageHeader → ℕ → ℕ → Outcome State) (outside ends : Bool)
      → on_message (cond outside Outside (cond ends AtEnd Cut)) call state f ≡ on_message (cond outside Outside (cond ends AtEnd Cut)) call state g
  too_few f g true ends = refl
  too_few f g false true = refl
  too_few f g false false = refl

  -- else it is read by its header
  by-header : (f g : MessageHeader → ℕ → ℕ → Outcome State) (outside ends cut misstated : Bool) (h : MessageHeader) (end next : ℕ) → f h end next ≡ g h end next
      → on_message (cond outside Outside (cond ends AtEnd (cond cut Cut (cond misstated Misstated (Message h end next))))) call state f
      ≡ on_message (cond outside Outside (cond ends AtEnd (cond cut Cut (cond misstated Misstated (Message h end next))))) call state g
  by-header f g true ends cut misstated h end next q = refl
  by-header f g false true cut misstated h end next q = refl
  by-header f g false false true misstated h end next q = refl
  by-header f g false false false true h end next q = refl
  by-header f g false false false false h end next q = q

  module _ (d e : List ℕ) (agree : DatagramsAgree d e call.position) where
    abbrev place : ℕ
    place = call.position

    -- the message that the header states
    stated-same : (h : MessageHeader) (next : ℕ) → u32_at e place ≡ u32_at d place → made e h (place + u32_at d place) next ≡ made d h (place + u32_at d place) next
    unfolding message_of
    stated-same h next same =
        let messages : MessagesAgree (part_of d place (place + u32_at d place)) (part_of e place (place + u32_at d place)) = rw same at agree.messages in
        message-same (part_of d place (place + u32_at d place)) (part_of e place (place + u32_at d place)) messages box state call h next

    position-same : position_outcome box state call e ≡ position_outcome box state call d
    unfolding position_outcome message_at
    position-same =
        ⊎_elim
        (λ (f : length d < place + 16). rw (← agree.size, lt-ltb _ _ f) (too_few (made e) (made d) (ltb (length d) place) (eqb place (length d))))
        (λ (f : place + 16 ≤ length d).
        let u16 = u16-same d e agree.size place (place + 16) (omega arith) f agree.header in
        let u32 = u32-same d e agree.size place (place + 16) (omega arith) f agree.header in
        let same = u32 place (omega arith) (omega arith) in
        rw (
          ← agree.size,
          same,
          u16 (place + 4) (omega arith) (omega arith),
          u16 (place + 6) (omega arith) (omega arith),
          u32 (place + 8) (omega arith) (omega arith),
          u32 (place + 12) (omega arith) (omega arith),
        )
        (by-header (made e) (made d) (ltb (length d) place) (eqb place (length d)) (ltb (length d) (place + 16))
        (ltb (u32_at d place) 16 || ltb (length d) (place + u32_at d place))
        (message_header d place) (place + u32_at d place) (min (place + round_up4 (u32_at d place)) (length d))
        (stated-same (message_header d place) (min (place + round_up4 (u32_at d place)) (length d)) same)))
        (lt-or-ge (length d) (place + 16))

pub padding-free : (box : Box) (state : State) (call : Call) (d e : List ℕ) (room : ℕ) → DatagramsAgree d e call.position
    → outcome box state call e room ≡ outcome box state call d room
unfolding outcome
padding-free box state call d e room agree = rw (← agree.size, position-same box state call d e agree)

pub padding-free-bytes : (box : Box) (stored : Stored) (call : Call) (d e : List ℕ) (room : ℕ) → DatagramsAgree d e call.position
    → bytes_outcome box stored call e room ≡ bytes_outcome box stored call d room
unfolding bytes_outcome words_outcome
padding-free-bytes box stored call d e room agree = rw (padding-free box (in_words stored) call d e room agree)

pub padding-free-normal : (s t names : List ℕ) (room : ℕ) → length s ≡ length t → BitsetAgrees s t 0 → normalised t names room ≡ normalised s names room
unfolding normalised
padding-free-normal s t names room size agree = rw (← size, bitset-same s t size names 0 agree)
