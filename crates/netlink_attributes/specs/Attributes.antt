-- Document 01, "Sizes on the wire": the attributes of a parent, whose contents are the bytes of a list from a position on.
use Rattle.std.specs.Prelude.{ℕ, zero, suc, ◌+◌, ◌-◌, ◌/◌, ◌%◌, min, List, [], cond, ◌||◌, ◌&&◌, length, take, drop, leb, ltb}
use Rattle.basics.specs.Numbers.{u16_at}
use Rattle.netlink_headers.specs.Lengths.{round_up4}
use Rattle.netlink_attributes.specs.declared.AttributeRead.{AttributeRead}
use Rattle.netlink_attributes.specs.declared.Attribute.{Attribute}
use Rattle.netlink_attributes.specs.declared.AttributeRead.TheVariants as A

-- the attribute whose header stands at a position: its type, the two bits above it, where its payload starts and ends, and the place of the
-- next: a step past the parent's end stops there
abbrev pub headed_at : List ℕ → ℕ → Attribute
headed_at s at =
    record {
      kind = u16_at s (at + 2) % 16384;
      bits = u16_at s (at + 2) / 16384;
      start = at + 4;
      end = at + u16_at s at;
      next = min (at + round_up4 (u16_at s at)) (length s);
    }

-- the attribute at a position. Broken: 1 to 3 bytes left, or a length below 4 or more than is left
unfoldable pub attribute_at : List ℕ → ℕ → AttributeRead
attribute_at s at =
    cond (leb (length s) at) A.End
    (cond (ltb (length s) (at + 4)) A.Broken
    (cond (ltb (u16_at s at) 4 || ltb (length s) (at + u16_at s at)) A.Broken
    (A.Attribute (headed_at s at))))

-- the bytes from start to end, none where the two lie outside the list
unfoldable pub part_of : List ℕ → ℕ → ℕ → List ℕ
part_of s start end = cond (leb start end && leb end (length s)) (take (end - start) (drop start s)) []

-- the attributes of a parent in order, to its end or to the first that is broken, with its place
pub data Attributes : Type 0 where
  done : Attributes
  broken : ℕ → Attributes
  attribute : (kind bits start end : ℕ) → Attributes → Attributes

-- what is read at a place, and then what stands from the next place on
abbrev pub on_read : AttributeRead → ℕ → (ℕ → Attributes) → Attributes
on_read A.End at rest = done
on_read A.Broken at rest = broken at
on_read (A.Attribute x) at rest = attribute x.kind x.bits x.start x.end (rest x.next)

-- at most n attributes from a position on
unfoldable pub attributes_up_to : ℕ → List ℕ → ℕ → Attributes
attributes_up_to zero s at = broken at
attributes_up_to (suc n) s at = on_read (attribute_at s at) at (λ next. attributes_up_to n s next)

-- the attributes from a position on: each takes four bytes, so one more than the bytes is never reached (law `attributes-step`)
unfoldable pub attributes : List ℕ → ℕ → Attributes
unfolding attributes_up_to
attributes s at = attributes_up_to (suc (length s)) s at
