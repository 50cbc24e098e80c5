-- Request C-11: "one reply for each port in roll order, each with the MULTI flag (2), then a DONE message".
use Rattle.std.specs.Prelude.{ℕ, List, ◌++◌}
use Rattle.basics.specs.Numbers.{le32}
use Rattle.netlink_headers.specs.declared.headers.MessageHeader.{MessageHeader}
use Rattle.netlink_write.specs.Headers.{message_header_bytes}

-- "the MULTI flag (2)"
abbrev pub multi : ℕ
multi = 2

-- "type 3, MULTI, sequence and port id echoed", of the request with the header h
unfoldable pub done_header : MessageHeader → MessageHeader
done_header h = record { length = 20; kind = 3; flags = multi; sequence = h.sequence; port = h.port }

-- DONE: its header, and "a 32-bit 0 after the header, 20 bytes"
unfoldable pub done_message : MessageHeader → List ℕ
done_message h = message_header_bytes (done_header h) ++ le32 0
