-- The laws of writing a form: three writers in a row.
use Prim.Native.Nat.{ℕ, ◌+◌, ◌*◌, ◌-◌, ◌≤◌}
use mathlib.Core.Path.{◌≡◌}
use mathlib.Core.List.{List, ◌++◌, append_assoc}
use lib.ListN.{length, take, drop, length-take}
use native.Mathlib.Omega.{arith}
use borrow.Rule.Slice.PartMut.{put_mid}
use Rattle.basics.specs.Numbers.{le32}
use Rattle.bits.specs.Set.{words_for}
use Rattle.word_bytes.specs.Bytes.{bytes_of}
use Rattle.page.specs.Page.{Wrote}
use Rattle.netlink_write.specs.Attributes.{attr}
use Rattle.page.proofs.Page.{wrote_then}
use Rattle.bitset_write.specs.Form.{parts_bytes, form_bytes}

pub parts-wrote : (P A B C value mask : List ℕ) (n a v at m : ℕ) → 144 ≤ length P → length value ≤ 16 → a ≡ 8 → Wrote (attr 2 (le32 n)) P A a
    → v ≡ length value * 4 + 4 → Wrote (attr 4 (bytes_of value)) (take (length A - 8) (drop 8 A)) B v → at ≡ 8 + v
    → Wrote (attr 5 (bytes_of mask)) (take (length (put_mid 8 (length A - 8) A B) - at) (drop at (put_mid 8 (length A - 8) A B))) C m
    → Wrote (parts_bytes n value mask) P (put_mid at (length (put_mid 8 (length A - 8) A B) - at) (put_mid 8 (length A - 8) A B) C) (at + m)
unfolding parts_bytes
parts-wrote P A B C value mask n a v at m room fits ea wa ev wb et wc =
    let first : Wrote (attr 2 (le32 n)) P A 8 = rw ea at wa in
    let two = wrote_then P A B (attr 2 (le32 n)) (attr 4 (bytes_of value)) 8 v (omega arith) first wb in
    let three = wrote_then P (put_mid 8 (length A - 8) A B) C (attr 2 (le32 n) ++ attr 4 (bytes_of value)) (attr 5 (bytes_of mask)) (8 + v) m (omega arith) two
    (rw et at wc) in
    rw (← append_assoc (attr 2 (le32 n)) (attr 4 (bytes_of value)) (attr 5 (bytes_of mask)), et) three

-- a form's own words
module _ (n w r : ℕ) (mask value : List ℕ) (e : w ≡ words_for n) where
  pub form-wrote : (P Q : List ℕ) → Wrote (parts_bytes n (take w value) (take w mask)) P Q r → Wrote (form_bytes n mask value) P Q r
  unfolding form_bytes
  form-wrote P Q h = rw (← e) h

  pub form-fits : n ≤ 512 → r ≡ (length (take w value) + length (take w mask)) * 4 + 16 → r ≤ 144
  form-fits h q = omega (arith, q, e, length-take w value, length-take w mask)

pub ruleset form-laws = (form-wrote, form-fits)
