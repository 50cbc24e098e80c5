-- Document 01, "Bitsets": the contents of a bitset judged. It is walked whole; 18 first; with BITS it is a bit list, else compact.
use Rattle.std.specs.Prelude.{ℕ, ◌-◌, ◌&&◌, cond, Option, Some, None, List}
use Rattle.entries.specs.Entry.{count}
use Rattle.netlink.specs.Walk.{walked}
use Rattle.refusal.specs.declared.Refusal.TheVariants.{Mixed}
use Rattle.bitset_form.specs.Policies.{bitset_policy}
use Rattle.bitset_form.specs.Parts.{bitset_parts}
use Rattle.bitset_form.specs.declared.parts.BitsetParts.{BitsetParts}
use Rattle.bitset_form.specs.Bitset.{Reading}
use Rattle.bitset_form.specs.Bitset.Reading.{refused}
use Rattle.bitset_compact.specs.Compact.{compact_reading}
use Rattle.refusal.specs.Refusal.{on_walk}
use Rattle.bitset_list.specs.BitList.{list_reading}

-- "18, in order: BITS with VALUE; BITS with MASK; NOMASK with MASK"
unfoldable pub mixed_at : BitsetParts → Option ℕ
mixed_at parts =
    cond (parts.bits.present && parts.value.present) (Some (parts.value.start - 4))
    (cond (parts.bits.present && parts.mask.present) (Some (parts.mask.start - 4))
    (cond (parts.nomask.present && parts.mask.present) (Some (parts.mask.start - 4)) None))

-- 18 where the forms are mixed, else what comes after
abbrev pub on_mixing : Option ℕ → Reading → Reading
on_mixing None rest = rest
on_mixing (Some at) rest = refused (Mixed at)

-- the parts of a bitset whose place is `nest`
unfoldable pub bitset_parts_reading : List ℕ → ℕ → List ℕ → BitsetParts → Reading
bitset_parts_reading s nest names parts =
    on_mixing (mixed_at parts) (cond parts.bits.present (list_reading s names parts) (compact_reading s nest (count names) parts))

-- the bitset whose contents are the bytes of s from a position on
unfoldable pub bitset_reading : List ℕ → ℕ → List ℕ → Reading
bitset_reading s from names =
    on_walk (walked bitset_policy s from) refused (λ slots. bitset_parts_reading s (from - 4) names (bitset_parts slots))
