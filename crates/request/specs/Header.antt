-- Document 01, "What a call says back", levels: "Then the header is walked whole, then 14 to 17": here 14 and 15; and request C-11: 8 "in the place of 14".
use Rattle.std.specs.Prelude.{ℕ, ◌-◌, List, Bool, ◌||◌, not, cond, ltb, Result, Ok, Err}
use Rattle.netlink_attributes.specs.Attributes.{part_of}
use Rattle.netlink.specs.Walk.{walked, slot_number}
use Rattle.netlink.specs.declared.walk.Slot.{Slot}
use Rattle.refusal.specs.Refusal.{on_walk}
use Rattle.refusal.specs.declared.Refusal.TheVariants.{Dump, NoPort, HeaderFlag}
use Rattle.request.specs.Policies.{header_policy}
use Rattle.request.specs.Parts.{header_parts}
use Rattle.request.specs.declared.parts.HeaderParts.{HeaderParts}
use Rattle.refusal.specs.declared.Refusal.{Refusal}
use Rattle.request.specs.declared.header.Header.{Header}

-- 15, "header flag other than 1, 2": the flags are a bit map, and absent ones are 0
unfoldable pub flags_judged : List ℕ → HeaderParts → Result Header Refusal
flags_judged m parts =
    cond (ltb 3 (slot_number m parts.flags)) (Err (HeaderFlag (parts.flags.start - 4)))
    (Ok (record { parts = parts; flags = slot_number m parts.flags }))

-- 14, "neither index nor name of a port", of the nest at a place; then 15
unfoldable pub parts_of : List ℕ → ℕ → HeaderParts → Result Header Refusal
parts_of m nest parts = cond (not (parts.index.present || parts.name.present)) (Err (NoPort nest)) (flags_judged m parts)

-- 8 "for a dump that names a port by index or name, in the place of 14"; then 15
unfoldable pub dump_parts_of : List ℕ → HeaderParts → Result Header Refusal
dump_parts_of m parts = cond (parts.index.present || parts.name.present) (Err Dump) (flags_judged m parts)

-- the parts of the nest at a place, in a dump or in another request
abbrev pub judged_parts : List ℕ → ℕ → Bool → HeaderParts → Result Header Refusal
judged_parts m nest dump parts = cond dump (dump_parts_of m parts) (parts_of m nest parts)

-- the header nest, walked whole in the message m cut at the nest's end: every place counts from the start of m
unfoldable pub header_of : List ℕ → Slot → Bool → Result Header Refusal
header_of m header dump =
    on_walk (walked header_policy (part_of m 0 header.end) header.start) Err
    (λ slots. judged_parts m (header.start - 4) dump (header_parts slots))
