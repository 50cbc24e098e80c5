-- Document 01, "Sheet of marked bitsets": N 40, bit 3 "lldp", start {0, 33}; words low first.
use Rattle.std.specs.Prelude.{ℕ, ◌+◌, ◌*◌, List, [], ◌∷◌, ◌++◌, Bool, true, false, ◌&&◌, replicate, eqb}
use Rattle.basics.specs.Numbers.{le32}
use Rattle.bits.specs.Set.{has, words_of}
use Rattle.word_bytes.specs.Bytes.{bytes_of}
use Rattle.entries.specs.Entry.{count}
use Rattle.names.specs.Rule.{names_right}
use Rattle.netlink_write.specs.Attributes.{attr, nest}
use Rattle.netlink_error.specs.declared.Detail.{Detail}
use Rattle.netlink_error.specs.declared.Detail.TheVariants.{Nothing, Offset, MissTop, MissIn}
use Rattle.refusal.specs.Refusal.{number_of, detail_of}
use Rattle.bitset_form.specs.Bitset.{Bitset, Reading, effect}
use Rattle.bitset_form.specs.Bitset.Reading.{refused, accepted}
use Rattle.bitset.specs.Judge.{bitset_reading}
use Rattle.normal.specs.Normal.{normal_form}

-- the attributes of a bitset and of a BIT, NOMASK (1) first
abbrev pub NOMASK : List ℕ
NOMASK = attr 1 []

-- SIZE (2)
abbrev pub SIZE : ℕ → List ℕ
SIZE n = attr 2 (le32 n)

-- BITS (3)
abbrev pub BITS : List ℕ → List ℕ
BITS bits = nest 3 bits

-- VALUE (4)
abbrev pub VALUE : List ℕ → List ℕ
VALUE words = attr 4 (bytes_of words)

-- MASK (5)
abbrev pub MASK : List ℕ → List ℕ
MASK words = attr 5 (bytes_of words)

-- a BIT (1 in BITS)
abbrev pub BIT : List ℕ → List ℕ
BIT parts = nest 1 parts

-- its INDEX (1)
abbrev pub INDEX : ℕ → List ℕ
INDEX i = attr 1 (le32 i)

-- its NAME (2)
abbrev pub NAME : List ℕ → List ℕ
NAME name = attr 2 name

-- its VALUE flag (3)
abbrev pub ON : List ℕ
ON = attr 3 []

-- "lldp", and its NUL
abbrev pub lldp : List ℕ
lldp = 108 ∷ 108 ∷ 100 ∷ 112 ∷ 0 ∷ []

-- forty entries, of which entry 3 is named
unfoldable pub sheet_names : List ℕ
sheet_names = replicate 96 0 ++ (lldp ++ replicate (27 + 36 * 32) 0)

-- what the sheet says of a bitset: a number and the place of its OFFS; the set that is made; that and the normal form's VALUE and MASK
pub data Expected : Type 0 where
  number : ℕ → ℕ → Expected
  makes : List ℕ → Expected
  normal : (made value mask : List ℕ) → Expected

-- a row of the sheet: the bitset's contents, and what is expected
pub record SheetRow : Type 0 where
  pub contents : List ℕ
  pub expected : Expected

-- the row of these
abbrev pub sheet_row : List ℕ → Expected → SheetRow
sheet_row contents expected = record { contents = contents; expected = expected }

-- P1 to P12, in order; P11 is two rows
unfoldable pub sheet : List SheetRow
sheet =
    sheet_row (SIZE 40 ++ (VALUE (8 ∷ 0 ∷ []) ++ MASK (8 ∷ 2 ∷ []))) (normal (9 ∷ 0 ∷ []) (8 ∷ 0 ∷ []) (8 ∷ 2 ∷ []))
    ∷ sheet_row (NOMASK ++ (SIZE 3 ++ VALUE (2 ∷ []))) (normal (2 ∷ 0 ∷ []) (2 ∷ 0 ∷ []) (4294967295 ∷ 255 ∷ []))
    ∷ sheet_row (NOMASK ++ (SIZE 0 ++ VALUE [])) (makes (0 ∷ 0 ∷ []))
    ∷ sheet_row (SIZE 0 ++ (VALUE [] ++ MASK [])) (makes (1 ∷ 2 ∷ []))
    ∷ sheet_row (SIZE 64 ++ (VALUE (0 ∷ 0 ∷ []) ++ MASK (0 ∷ 256 ∷ []))) (number 20 20)
    ∷ sheet_row (SIZE 64 ++ (VALUE (0 ∷ 256 ∷ []) ++ MASK (0 ∷ 0 ∷ []))) (makes (1 ∷ 2 ∷ []))
    ∷ sheet_row (NOMASK ++ (SIZE 33 ++ VALUE (0 ∷ []))) (number 19 12)
    ∷ sheet_row (NOMASK ++ (SIZE 4294967295 ++ VALUE (0 ∷ []))) (number 19 12)
    ∷ sheet_row (BITS (BIT (INDEX 3 ++ ON) ++ BIT (NAME lldp))) (normal (1 ∷ 2 ∷ []) (0 ∷ 0 ∷ []) (8 ∷ 0 ∷ []))
    ∷ sheet_row (NOMASK ++ BITS []) (makes (0 ∷ 0 ∷ []))
    ∷ sheet_row (BITS (BIT (INDEX 39 ++ ON))) (makes (1 ∷ 130 ∷ []))
    ∷ sheet_row (BITS (BIT (INDEX 40))) (number 20 8)
    ∷ sheet_row (SIZE 3 ++ (VALUE (4294967295 ∷ []) ++ MASK (4294967295 ∷ []))) (makes (7 ∷ 2 ∷ []))
    ∷ []

-- whether two lists are equal
abbrev pub same_list : List ℕ → List ℕ → Bool
same_list [] [] = true
same_list [] (y ∷ ys) = false
same_list (x ∷ xs) [] = false
same_list (x ∷ xs) (y ∷ ys) = eqb x y && same_list xs ys

-- the place that a detail tells
abbrev pub offset : Detail → ℕ → Bool
offset (Offset at) place = eqb at place
offset Nothing place = false
offset (MissTop kind) place = false
offset (MissIn kind nest) place = false

-- the set that a bitset makes of the start {0, 33}, as words
abbrev pub made : Bitset → List ℕ
made b = words_of 2 (effect b (has (1 ∷ 2 ∷ [])))

-- whether a reading is as expected
abbrev pub agrees : Reading → Expected → Bool
agrees (refused r) (number n at) = eqb (number_of r) n && offset (detail_of r) at
agrees (refused r) (makes after) = false
agrees (refused r) (normal after value mask) = false
agrees (accepted b) (number n at) = false
agrees (accepted b) (makes after) = same_list (made b) after
agrees (accepted b) (normal after value mask) = same_list (made b) after && same_list (normal_form 40 b) (SIZE 40 ++ (VALUE value ++ MASK mask))

-- every row of the sheet is so
abbrev pub rows_hold : List SheetRow → Bool
rows_hold [] = true
rows_hold (r ∷ rs) = agrees (bitset_reading r.contents 0 sheet_names) r.expected && rows_hold rs

-- the one claim: the name list of the sheet breaks no rule, has 40 entries, and every row is so
abbrev pub holds : List SheetRow → Bool
holds rows = names_right sheet_names && (eqb (count sheet_names) 40 && rows_hold rows)
