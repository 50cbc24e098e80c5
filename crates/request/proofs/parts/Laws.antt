-- Laws of the parts of a level: they are the slots at their types.
use mathlib.Core.Path.{◌≡◌}
use mathlib.Core.List.{List}
use lib.ListN.{get_or}
use Rattle.netlink.specs.Walk.{absent}
use Rattle.netlink.specs.declared.walk.Slot.{Slot}
use Rattle.request.specs.Parts.{top_parts, header_parts}

pub top-parts-are : (slots : List Slot) (header bitset : Slot) → header ≡ get_or slots 1 absent → bitset ≡ get_or slots 2 absent
    → record { header = header; bitset = bitset } ≡ top_parts slots
unfolding top_parts
top-parts-are slots header bitset eh eb = cc

pub header-parts-are : (slots : List Slot) (index name flags : Slot) → index ≡ get_or slots 1 absent → name ≡ get_or slots 2 absent → flags ≡ get_or slots 3 absent
    → record { index = index; name = name; flags = flags } ≡ header_parts slots
unfolding header_parts
header-parts-are slots index name flags ei en ef = cc
