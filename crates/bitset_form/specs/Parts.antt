-- Document 01, "Sizes on the wire" and "Bitsets": the parts of a bitset and of a BIT by their names, from the slots of a walk.
use Rattle.std.specs.Prelude.{List, get_or}
use Rattle.netlink.specs.Walk.{absent}
use Rattle.netlink.specs.declared.walk.Slot.{Slot}
use Rattle.bitset_form.specs.declared.parts.BitsetParts.{BitsetParts}
use Rattle.bitset_form.specs.declared.parts.BitParts.{BitParts}

-- a bitset: 1 NOMASK, 2 SIZE, 3 BITS, 4 VALUE, 5 MASK
unfoldable pub bitset_parts : List Slot → BitsetParts
bitset_parts slots =
    record {
      nomask = get_or slots 1 absent;
      size = get_or slots 2 absent;
      bits = get_or slots 3 absent;
      value = get_or slots 4 absent;
      mask = get_or slots 5 absent;
    }

-- a BIT: 1 INDEX, 2 NAME, 3 the VALUE flag
unfoldable pub bit_parts : List Slot → BitParts
bit_parts slots = record { index = get_or slots 1 absent; name = get_or slots 2 absent; on = get_or slots 3 absent }
