-- Document 01, "Sizes on the wire", the table of types: the parts of the top level and of the header, from the slots of their walks.
use Rattle.std.specs.Prelude.{List, get_or}
use Rattle.netlink.specs.Walk.{absent}
use Rattle.netlink.specs.declared.walk.Slot.{Slot}
use Rattle.request.specs.declared.parts.TopParts.{TopParts}
use Rattle.request.specs.declared.parts.HeaderParts.{HeaderParts}

-- 1 header; 2 bitset
unfoldable pub top_parts : List Slot → TopParts
top_parts slots = record { header = get_or slots 1 absent; bitset = get_or slots 2 absent }

-- 1 index; 2 name; 3 flags
unfoldable pub header_parts : List Slot → HeaderParts
header_parts slots = record { index = get_or slots 1 absent; name = get_or slots 2 absent; flags = get_or slots 3 absent }
