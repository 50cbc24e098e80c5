-- What C gets back from `ethnl_find`, from its contract alone.
--     find-returned    the number, the bit and the count are as `FindReturned` says, whatever was lent
use mathlib.Core.Path.{◌≡◌}
use Rattle.bit_name.specs.Find.{Found, name_found}
use Rattle.bit_name.proofs.Meaning.{name-told}
use Rattle.exported.specs.Found.{FindLent, FindLeft, FindLeaves, FindReturned}

left : FindLeft → Found
left r = record { number = r.number; bit = r.found; compared = r.compared }

left_is : (c : FindLent) (r : FindLeft) → FindLeaves c r → left r ≡ name_found c.names c.name
unfolding left
left_is c r h = rw (h.number, h.bit, h.count)

pub find-returned : (c : FindLent) (r : FindLeft) → FindLeaves c r → FindReturned c r
unfolding left
find-returned c r h = rw (left_is c r h) (name-told c.names c.name)
