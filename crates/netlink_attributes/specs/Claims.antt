-- What the law `apart` says (proofs/Apart.antt).
use Rattle.std.specs.Prelude.{ℕ, ◌+◌, ◌-◌, ◌≤◌, ◌<◌, ◌≡◌, List, length, take, drop}
use Rattle.basics.specs.Numbers.{u16_at}
use Rattle.netlink_attributes.specs.Attributes.{Attributes, part_of}
use Rattle.netlink_attributes.specs.Attributes.Attributes.{done, broken, attribute}

-- demand 2, "its own part of the datagram, inside its parent, apart from its siblings": the attribute at a place has its header there; its
-- payload is the list's bytes from the header's end to the stated end, inside the list; the next stands no sooner than that end, and less than
-- four bytes behind it; none is left where the list ends
abbrev pub Apart : List ℕ → ℕ → Attributes → Type 0
Apart s at done = length s ≤ at
Apart s at (broken p) = (p ≡ at) × (p < length s)
Apart s at (attribute k b start end rest) =
    (start ≡ at + 4) × (end ≡ at + u16_at s at) × (start ≤ end) × (end ≤ length s)
    × (part_of s start end ≡ take (u16_at s at - 4) (drop (at + 4) s))
    × ((next : ℕ) × (end ≤ next) × (next ≤ length s) × Apart s next rest × (next < end + 4))
