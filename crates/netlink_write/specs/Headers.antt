-- Document 01, "Sizes on the wire": the bytes of the three wire structures of fixed size.
use Rattle.std.specs.Prelude.{ℕ, List, ◌∷◌, ◌++◌}
use Rattle.basics.specs.Numbers.{le16, le32}
use Rattle.netlink_headers.specs.declared.headers.MessageHeader.{MessageHeader}
use Rattle.netlink_headers.specs.declared.headers.GenericHeader.{GenericHeader}

-- 16 bytes: length u32, type u16, flags u16, sequence u32, port id u32
unfoldable pub message_header_bytes : MessageHeader → List ℕ
message_header_bytes h = le32 h.length ++ (le16 h.kind ++ (le16 h.flags ++ (le32 h.sequence ++ le32 h.port)))

-- 4 bytes: command u8, version u8, reserved u16
unfoldable pub generic_header_bytes : GenericHeader → List ℕ
generic_header_bytes h = h.command ∷ h.version ∷ le16 h.reserved

-- 4 bytes: length u16, type u16 with the two bits above it
unfoldable pub attribute_header_bytes : ℕ → ℕ → List ℕ
attribute_header_bytes stated kind = le16 stated ++ le16 kind
