-- Document 01, "Sizes on the wire": the wire structures of fixed size, 16 bytes for a message header, 4 for a generic one, 4 for an
-- attribute's.
use Rattle.std.specs.Prelude.{ℕ, ◌+◌, List, cond, length, leb}
use Rattle.basics.specs.Numbers.{byte_at, u16_at, u32_at}
use Rattle.netlink_headers.specs.declared.headers.MessageHeader.{MessageHeader}
use Rattle.netlink_headers.specs.declared.headers.MessageHeaderRead.{MessageHeaderRead}
use Rattle.netlink_headers.specs.declared.headers.MessageHeaderRead.TheVariants as M
use Rattle.netlink_headers.specs.declared.headers.GenericHeader.{GenericHeader}
use Rattle.netlink_headers.specs.declared.headers.GenericHeaderRead.{GenericHeaderRead}
use Rattle.netlink_headers.specs.declared.headers.GenericHeaderRead.TheVariants as G
use Rattle.netlink_headers.specs.declared.headers.AttributeHeader.{AttributeHeader}
use Rattle.netlink_headers.specs.declared.headers.AttributeHeaderRead.{AttributeHeaderRead}
use Rattle.netlink_headers.specs.declared.headers.AttributeHeaderRead.TheVariants as A

-- length u32, type u16, flags u16, sequence u32, port id u32
abbrev pub message_header : List ℕ → ℕ → MessageHeader
message_header s at =
    record {
      length = u32_at s at;
      kind = u16_at s (at + 4);
      flags = u16_at s (at + 6);
      sequence = u32_at s (at + 8);
      port = u32_at s (at + 12);
    }

-- the message header at a position, Short with fewer than 16 bytes left
unfoldable pub message_header_at : List ℕ → ℕ → MessageHeaderRead
message_header_at s at = cond (leb (at + 16) (length s)) (M.Header (message_header s at)) M.Short

-- command u8, version u8, reserved u16
abbrev pub generic_header : List ℕ → ℕ → GenericHeader
generic_header s at = record { command = byte_at s at; version = byte_at s (at + 1); reserved = u16_at s (at + 2) }

-- the generic header at a position, Short with fewer than 4 bytes left
unfoldable pub generic_header_at : List ℕ → ℕ → GenericHeaderRead
generic_header_at s at = cond (leb (at + 4) (length s)) (G.Header (generic_header s at)) G.Short

-- length u16, type u16
abbrev pub attribute_header : List ℕ → ℕ → AttributeHeader
attribute_header s at = record { length = u16_at s at; kind = u16_at s (at + 2) }

-- the attribute header at a position, Short with fewer than 4 bytes left
unfoldable pub attribute_header_at : List ℕ → ℕ → AttributeHeaderRead
attribute_header_at s at = cond (leb (at + 4) (length s)) (A.Header (attribute_header s at)) A.Short
