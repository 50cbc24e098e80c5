-- Names of ports (document 01, "The box a call is given", port roll: "name (16 bytes)").
use Rattle.std.specs.Prelude.{ℕ, ◌+◌, List, Bool, ◌&&◌, not, length, leb, eqb}
use Rattle.basics.specs.Numbers.{byte_at}
use Rattle.basics.specs.Nuls.{nul_then_nul, same_byte}
use Rattle.basics.specs.Scan.{all}
use Rattle.netlink_attributes.specs.Attributes.{part_of}

-- the 16 bytes at a place of the roll, none where they do not lie in it
unfoldable pub name_at : List ℕ → ℕ → List ℕ
name_at roll at = part_of roll at (at + 16)

-- whether a and b are the same name
unfoldable pub same_name : List ℕ → List ℕ → Bool
same_name a b = all 16 (same_byte a b)

-- whether a field of 16 bytes holds the name; NULs may follow the name
unfoldable pub holds_name : List ℕ → List ℕ → Bool
holds_name field name = leb (length name) 16 && same_name field name

-- "name 1 to 15 bytes that aren't NUL, then NULs only": its first byte is not NUL, its last is, and after a NUL comes a NUL
unfoldable pub name_right : List ℕ → Bool
name_right s = not (eqb (byte_at s 0) 0) && (eqb (byte_at s 15) 0 && all 15 (nul_then_nul s))
