-- Document 01, "What a call says back", the error message and the ACK.
use Rattle.std.specs.Prelude.{ℕ, ◌+◌, ◌-◌, ◌%◌, List, [], ◌++◌, length, take}
use Rattle.basics.specs.Numbers.{le32, u32_at}
use Rattle.netlink_headers.specs.declared.headers.MessageHeader.{MessageHeader}
use Rattle.netlink_write.specs.Headers.{message_header_bytes}
use Rattle.netlink_write.specs.Attributes.{attr}
use Rattle.netlink_error.specs.declared.Detail.{Detail}
use Rattle.netlink_error.specs.declared.Detail.TheVariants.{Nothing, Offset, MissTop, MissIn}

-- OFFS (2), or MISS_TYPE (5) and, unless the top level lacks it, MISS_NEST (6)
unfoldable pub detail_bytes : Detail → List ℕ
detail_bytes Nothing = []
detail_bytes (Offset at) = attr 2 (le32 at)
detail_bytes (MissTop kind) = attr 5 (le32 kind)
detail_bytes (MissIn kind nest) = attr 5 (le32 kind) ++ attr 6 (le32 nest)

-- CAPPED (0x100), and with detail ACK_TLVS (0x200) too
unfoldable pub flags_of : Detail → ℕ
flags_of Nothing = 256
flags_of (Offset at) = 768
flags_of (MissTop kind) = 768
flags_of (MissIn kind nest) = 768

-- minus a number, as 32 bits
unfoldable pub negative : ℕ → ℕ
negative errno = (4294967296 - errno) % 4294967296

-- type 2, sequence and port id as in the request
unfoldable pub error_header : List ℕ → ℕ → ℕ → MessageHeader
error_header request flags total =
    record { length = total; kind = 2; flags = flags; sequence = u32_at request 8; port = u32_at request 12 }

-- header, errno as a negative number or 0, and the request's 16 header bytes: 36 bytes
unfoldable pub error_start : List ℕ → ℕ → ℕ → ℕ → List ℕ
error_start request errno flags total =
    message_header_bytes (error_header request flags total) ++ (le32 (negative errno) ++ take 16 request)

-- the error message to a request; the ACK is that of errno 0 without detail
unfoldable pub error_message : List ℕ → ℕ → Detail → List ℕ
error_message request errno detail =
    error_start request errno (flags_of detail) (length (detail_bytes detail) + 36) ++ detail_bytes detail
