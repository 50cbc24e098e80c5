-- Document 01, "Sizes on the wire": attributes as they are written. The stated length has the header in and the padding out; all padding is
-- written, as 0, and counted in the enclosing nest.
use Rattle.std.specs.Prelude.{ℕ, ◌+◌, ◌-◌, List, [], ◌∷◌, ◌++◌, length, take, replicate}
use Rattle.netlink_headers.specs.Lengths.{round_up4}
use Rattle.netlink.specs.Policy.{nul_at}
use Rattle.netlink_write.specs.Headers.{attribute_header_bytes}

-- the zeros from a stated length to the step
unfoldable pub padding : ℕ → List ℕ
padding stated = replicate (round_up4 stated - stated) 0

-- an attribute: its header, its payload, its padding
unfoldable pub attr : ℕ → List ℕ → List ℕ
attr kind payload = attribute_header_bytes (length payload + 4) kind ++ (payload ++ padding (length payload + 4))

-- a nest: marked by 0x8000, and its contents are whole attributes, so that nothing is left to pad
unfoldable pub nest : ℕ → List ℕ → List ℕ
nest kind contents = attribute_header_bytes (length contents + 4) (kind + 32768) ++ contents

-- "Replies": a name goes out with one NUL, behind its bytes before the first
unfoldable pub name_bytes : List ℕ → List ℕ
name_bytes name = take (nul_at name) name ++ (0 ∷ [])
