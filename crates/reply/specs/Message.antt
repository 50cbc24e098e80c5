-- Document 01, "Replies": "Header, generic header .., then attributes 1 (index, name) and 2 (the set under NOMASK)".
use Rattle.std.specs.Prelude.{ℕ, ◌+◌, Bool, List, ◌++◌, length}
use Rattle.netlink_headers.specs.declared.headers.MessageHeader.{MessageHeader}
use Rattle.netlink_headers.specs.declared.headers.GenericHeader.{GenericHeader}
use Rattle.netlink_write.specs.Headers.{message_header_bytes, generic_header_bytes}
use Rattle.index_name.specs.IndexName.{index_nest}
use Rattle.bitset_reply.specs.Set.{set_bytes}
use Rattle.reply.specs.declared.message.Heading.{Heading}

-- "Message type the family, flags 0; sequence and port id echoed": what the headers of the reply to a request say; in a dump the flags are MULTI
abbrev pub heading_of : MessageHeader → ℕ → ℕ → Heading
heading_of h flags command = record { family = h.kind; flags = flags; sequence = h.sequence; port = h.port; command = command }

-- the message header of a length
abbrev pub reply_message_header : Heading → ℕ → MessageHeader
reply_message_header h total = record { length = total; kind = h.family; flags = h.flags; sequence = h.sequence; port = h.port }

-- "version 1"
abbrev pub reply_generic_header : Heading → GenericHeader
reply_generic_header h = record { command = h.command; version = 1; reserved = 0 }

-- the two headers of a message of a length
unfoldable pub headers_bytes : Heading → ℕ → List ℕ
headers_bytes h total = message_header_bytes (reply_message_header h total) ++ generic_header_bytes (reply_generic_header h)

-- what a reply is about: the port's index and name, and its set: the words, how many bits, their names, and whether it goes out compact
pub record Content : Type 0 where
  pub index : ℕ
  pub name : List ℕ
  pub compact : Bool
  pub names : List ℕ
  pub words : List ℕ
  pub bits : ℕ

-- of these parts
abbrev pub content_of : ℕ → List ℕ → Bool → List ℕ → List ℕ → ℕ → Content
content_of index name compact names words bits =
    record { index = index; name = name; compact = compact; names = names; words = words; bits = bits }

-- attributes 1 and 2
unfoldable pub attributes_bytes : Content → List ℕ
attributes_bytes content =
    index_nest 1 content.index content.name
    ++ set_bytes content.compact content.names content.words content.bits

-- the reply, whose length counts all of it
unfoldable pub reply_bytes : Heading → Content → List ℕ
reply_bytes h content = headers_bytes h (length (attributes_bytes content) + 20) ++ attributes_bytes content
