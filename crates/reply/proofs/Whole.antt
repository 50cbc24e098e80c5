-- Document 01, "Replies": the whole reply, byte for byte.
use Prim.Native.Nat.{ℕ}
use mathlib.Core.Path.{◌≡◌, refl}
use mathlib.Core.Bool.{true}
use mathlib.Core.List.{List, [], ◌∷◌}
use Rattle.word_bytes.specs.Bytes.{bytes_of}
use Rattle.netlink.specs.Policy.{nul_at}
use Rattle.netlink_write.specs.Headers.{message_header_bytes, generic_header_bytes, attribute_header_bytes}
use Rattle.netlink_write.specs.Attributes.{padding, attr, nest, name_bytes}
use Rattle.index_name.specs.IndexName.{name_if_any, index_and_name, index_nest}
use Rattle.bitset_reply.specs.Set.{opening_bytes, compact_bytes, contents_bytes, set_bytes}
use Rattle.reply.specs.Message.{headers_bytes, content_of, attributes_bytes, reply_bytes}
use Rattle.reply.specs.declared.message.Heading.{Heading}

-- family 25, sequence 7, port id 9, to PRIVFLAGS_GET
abbrev pub heading : Heading
heading = record { family = 25; flags = 0; sequence = 7; port = 9; command = 14 }

-- "sw0", as the roll has it
abbrev pub sw0 : List ℕ
sw0 = 115 ∷ 119 ∷ 48 ∷ 0 ∷ 0 ∷ 0 ∷ 0 ∷ 0 ∷ 0 ∷ 0 ∷ 0 ∷ 0 ∷ 0 ∷ 0 ∷ 0 ∷ 0 ∷ []

-- the bytes of document 01
abbrev pub whole_reply : List ℕ
whole_reply =
    0x44 ∷ 0x00 ∷ 0x00 ∷ 0x00 ∷ 0x19 ∷ 0x00 ∷ 0x00 ∷ 0x00 ∷ 0x07 ∷ 0x00 ∷ 0x00 ∷ 0x00 ∷ 0x09 ∷ 0x00 ∷ 0x00 ∷ 0x00
    ∷ 0x0E ∷ 0x01 ∷ 0x00 ∷ 0x00 ∷ 0x14 ∷ 0x00 ∷ 0x01 ∷ 0x80 ∷ 0x08 ∷ 0x00 ∷ 0x01 ∷ 0x00 ∷ 0x03 ∷ 0x00 ∷ 0x00 ∷ 0x00
    ∷ 0x08 ∷ 0x00 ∷ 0x02 ∷ 0x00 ∷ 0x73 ∷ 0x77 ∷ 0x30 ∷ 0x00 ∷ 0x1C ∷ 0x00 ∷ 0x02 ∷ 0x80 ∷ 0x04 ∷ 0x00 ∷ 0x01 ∷ 0x00
    ∷ 0x08 ∷ 0x00 ∷ 0x02 ∷ 0x00 ∷ 0x28 ∷ 0x00 ∷ 0x00 ∷ 0x00 ∷ 0x0C ∷ 0x00 ∷ 0x04 ∷ 0x00 ∷ 0x01 ∷ 0x00 ∷ 0x00 ∷ 0x00
    ∷ 0x02 ∷ 0x00 ∷ 0x00 ∷ 0x00 ∷ []

-- port 3, N 40, bits 0 and 33, compact; no name of a bit stands in it
pub whole-reply : (names : List ℕ) → reply_bytes heading (content_of 3 sw0 true names (1 ∷ 2 ∷ []) 40) ≡ whole_reply
unfolding reply_bytes headers_bytes attributes_bytes set_bytes contents_bytes compact_bytes opening_bytes index_nest index_and_name name_if_any name_bytes nest attr padding message_header_bytes generic_header_bytes attribute_header_bytes nul_at bytes_of
whole-reply names = refl
