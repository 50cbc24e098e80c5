-- What C gets back from `ethnl_find`: the number, the bit and the count (request C-14).
use Rattle.std.specs.Prelude.{ℕ, List}
use Rattle.bit_name.specs.Find.{name_found}
use Rattle.bit_name.specs.Told.{Told}
use Rattle.ethnl.specs.Exported.{Find}

-- what a call of `ethnl_find` is lent: name list and name
pub record FindLent : Type 0 where
  pub names : List ℕ
  pub name : List ℕ

-- what it leaves: the number that it returns, the bit and the count behind their pointers
pub record FindLeft : Type 0 where
  pub number : ℕ
  pub found : ℕ
  pub compared : ℕ

-- the contract of `ethnl_find`, for what it is lent and what it leaves
abbrev pub FindLeaves : FindLent → FindLeft → Type 0
FindLeaves c r = Find (name_found c.names c.name) r.found r.compared r.number

-- what C gets back is what the bytes of list and name say
abbrev pub FindReturned : FindLent → FindLeft → Type 0
FindReturned c r = Told c.names c.name (record { number = r.number; bit = r.found; compared = r.compared })
