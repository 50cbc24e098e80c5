-- Document 01, "What a call says back", the error message and the ACK: whole ones, byte for byte, to a request of 40 bytes with family 25, sequence 7 and
-- port id 9.
--     whole-ack       36 bytes: CAPPED, errno 0, the request's header
--     whole-error     44 bytes: CAPPED and ACK_TLVS, errno 22, the request's header, OFFS 20
--     whole-missing   52 bytes: so with MISS_TYPE 4 and MISS_NEST 44; 44 bytes where the top level lacks type 2
use Prim.Native.Nat.{ℕ}
use mathlib.Core.Path.{◌≡◌, refl}
use mathlib.Core.List.{List, [], ◌∷◌, ◌++◌}
use Rattle.basics.specs.Numbers.{u32_at}
use Rattle.netlink_write.specs.Headers.{message_header_bytes, attribute_header_bytes}
use Rattle.netlink_write.specs.Attributes.{padding, attr}
use Rattle.netlink_error.specs.Error.{detail_bytes, flags_of, negative, error_header, error_start, error_message}
use Rattle.netlink_error.specs.declared.Detail.TheVariants.{Nothing, Offset, MissTop, MissIn}

-- the header of the request
abbrev header : List ℕ
header = 0x28 ∷ 0x00 ∷ 0x00 ∷ 0x00 ∷ 0x19 ∷ 0x00 ∷ 0x05 ∷ 0x00 ∷ 0x07 ∷ 0x00 ∷ 0x00 ∷ 0x00 ∷ 0x09 ∷ 0x00 ∷ 0x00 ∷ 0x00 ∷ []

-- the rest of the request, of which an error message says nothing
abbrev rest : List ℕ
rest = 0x0E ∷ 0x01 ∷ 0x00 ∷ 0x00 ∷ 0x14 ∷ 0x00 ∷ 0x01 ∷ 0x80 ∷ 0x08 ∷ 0x00 ∷ 0x01 ∷ 0x00 ∷ 0x03 ∷ 0x00 ∷ 0x00 ∷ 0x00 ∷ 0x08 ∷ 0x00 ∷ 0x03 ∷ 0x00 ∷ 0x01 ∷ 0x00 ∷ 0x00 ∷ 0x00 ∷ []

-- sequence 7 and port id 9
abbrev echoed : List ℕ
echoed = 0x07 ∷ 0x00 ∷ 0x00 ∷ 0x00 ∷ 0x09 ∷ 0x00 ∷ 0x00 ∷ 0x00 ∷ []

pub whole-ack : error_message (header ++ rest) 0 Nothing
    ≡ (0x24 ∷ 0x00 ∷ 0x00 ∷ 0x00 ∷ 0x02 ∷ 0x00 ∷ 0x00 ∷ 0x01 ∷ []) ++ (echoed ++ ((0x00 ∷ 0x00 ∷ 0x00 ∷ 0x00 ∷ []) ++ header))
unfolding error_message error_start error_header negative flags_of detail_bytes message_header_bytes u32_at
whole-ack = refl

pub whole-error : error_message (header ++ rest) 22 (Offset 20)
    ≡ (0x2C ∷ 0x00 ∷ 0x00 ∷ 0x00 ∷ 0x02 ∷ 0x00 ∷ 0x00 ∷ 0x03 ∷ [])
    ++ (echoed ++ ((0xEA ∷ 0xFF ∷ 0xFF ∷ 0xFF ∷ []) ++ (header ++ (0x08 ∷ 0x00 ∷ 0x02 ∷ 0x00 ∷ 0x14 ∷ 0x00 ∷ 0x00 ∷ 0x00 ∷ []))))
unfolding error_message error_start error_header negative flags_of detail_bytes message_header_bytes attribute_header_bytes padding attr u32_at
whole-error = refl

pub whole-missing : (error_message (header ++ rest) 22 (MissIn 4 44)
    ≡ (0x34 ∷ 0x00 ∷ 0x00 ∷ 0x00 ∷ 0x02 ∷ 0x00 ∷ 0x00 ∷ 0x03 ∷ [])
    ++ (echoed
    ++ ((0xEA ∷ 0xFF ∷ 0xFF ∷ 0xFF ∷ [])
    ++ (header ++ (0x08 ∷ 0x00 ∷ 0x05 ∷ 0x00 ∷ 0x04 ∷ 0x00 ∷ 0x00 ∷ 0x00 ∷ 0x08 ∷ 0x00 ∷ 0x06 ∷ 0x00 ∷ 0x2C ∷ 0x00 ∷ 0x00 ∷ 0x00 ∷ [])))))
    × (error_message (header ++ rest) 22 (MissTop 2)
    ≡ (0x2C ∷ 0x00 ∷ 0x00 ∷ 0x00 ∷ 0x02 ∷ 0x00 ∷ 0x00 ∷ 0x03 ∷ [])
    ++ (echoed ++ ((0xEA ∷ 0xFF ∷ 0xFF ∷ 0xFF ∷ []) ++ (header ++ (0x08 ∷ 0x00 ∷ 0x05 ∷ 0x00 ∷ 0x02 ∷ 0x00 ∷ 0x00 ∷ 0x00 ∷ [])))))
unfolding error_message error_start error_header negative flags_of detail_bytes message_header_bytes attribute_header_bytes padding attr u32_at
whole-missing = (refl, refl)
