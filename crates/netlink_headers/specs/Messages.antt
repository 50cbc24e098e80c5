-- Document 01, "Sizes on the wire" and "What a call says back": one message of a datagram.
use Rattle.std.specs.Prelude.{ℕ, ◌+◌, min, List, cond, ◌||◌, length, ltb, eqb}
use Rattle.basics.specs.Numbers.{u32_at}
use Rattle.netlink_headers.specs.Lengths.{round_up4}
use Rattle.netlink_headers.specs.Headers.{message_header}
use Rattle.netlink_headers.specs.declared.messages.MessageRead.{MessageRead}
use Rattle.netlink_headers.specs.declared.messages.MessageRead.TheVariants.{Message, Misstated, Cut, AtEnd, Outside}

-- the message at a position. Its stated length is at least 16 and at most what is left; the step past the datagram's end stops there.
unfoldable pub message_at : List ℕ → ℕ → MessageRead
message_at s at =
    cond (ltb (length s) at) Outside
    (cond (eqb at (length s)) AtEnd
    (cond (ltb (length s) (at + 16)) Cut
    (cond (ltb (u32_at s at) 16 || ltb (length s) (at + u32_at s at)) Misstated
    (Message (message_header s at) (at + u32_at s at) (min (at + round_up4 (u32_at s at)) (length s))))))
