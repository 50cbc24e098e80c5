-- A name without the NULs behind it: its length and its last byte (request C-14: "its length and its last byte before the NUL").
use Rattle.std.specs.Prelude.{ℕ, suc, ◌-◌, ◌&&◌, cond, List, [], ◌∷◌, get_or, eqb}

-- the bytes up to the last that is not NUL
unfoldable pub name_length : List ℕ → ℕ
name_length [] = 0
name_length (b ∷ s) = cond (eqb b 0 && eqb (name_length s) 0) 0 (suc (name_length s))

-- the last of these bytes; NUL where there is none
unfoldable pub last_byte : List ℕ → ℕ
last_byte s = get_or s (name_length s - 1) 0
