-- Laws of writing BITS: one for each return, and for each turn of the loop over the bits.
use Prim.Native.Nat.{ℕ, ◌+◌, ◌*◌, ◌-◌, ◌≤◌, ◌<◌}
use mathlib.Core.Path.{◌≡◌, refl, sym, ap}
use mathlib.Core.Bool.{Bool, true, false, not}
use mathlib.Core.List.{List}
use lib.ListN.{length, take, drop}
use native.Mathlib.Numerals.{add-one}
use native.Mathlib.Omega.{arith}
use borrow.Author.Tests.{not-true, not-false}
use borrow.Rule.Slice.PartMut.{put_mid}
use Rattle.basics.specs.Put.{put}
use Rattle.basics.proofs.Put.{put-nil}
use Rattle.entries.specs.Entry.{entry_at}
use Rattle.entries.proofs.Entries.{entry-most}
use Rattle.page.specs.Page.{Wrote}
use Rattle.netlink_write.specs.Headers.{attribute_header_bytes}
use Rattle.netlink_write.specs.Attributes.{nest}
use Rattle.index_name.specs.IndexName.{index_nest}
use Rattle.page.proofs.Page.{wrote_then}
use Rattle.netlink_write.proofs.attributes.Laws.{nest-wrote}
use Rattle.bitset_reply.specs.List.{bit_in, bits_bytes}

-- one bit
module _ (names : List ℕ) (listed : ℕ → Bool) (i : ℕ) (b : Bool) (eb : b ≡ listed i) where
  pub bit-absent : (P : List ℕ) → not b ≡ true → Wrote (bit_in names listed i) P P 0
  unfolding bit_in
  bit-absent P z = rw (← eb, not-true b z) (record { count = refl; page = sym (put-nil P) })

  pub bit-wrote : (P Q e : List ℕ) (r : ℕ) → not b ≡ false → e ≡ entry_at names i → Wrote (index_nest 1 i e) P Q r → Wrote (bit_in names listed i) P Q r
  unfolding bit_in
  bit-wrote P Q e r z q w = rw (← eb, not-false b z, ← q) w

module _ (e names : List ℕ) (i : ℕ) (q : e ≡ entry_at names i) where
  pub bit-name : length e ≤ 256
  bit-name = omega (arith, entry-most names i, ap length q)

  pub bit-room : (P : List ℕ) → 52 ≤ length P → length e + 20 ≤ length P
  bit-room P h = omega (arith, entry-most names i, ap length q)

  pub bit-fits : (r : ℕ) → r ≤ length e + 20 → r ≤ 52
  bit-fits r h = omega (arith, entry-most names i, ap length q)

pub ruleset bit-laws = (bit-absent, bit-wrote, bit-name, bit-room, bit-fits)

-- the loop: those below i are written
module _ (names : List ℕ) (listed : ℕ → Bool) (P : List ℕ) where
  pub bits-start : Wrote (bits_bytes names listed 0) P P 0
  unfolding bits_bytes
  bits-start = record { count = refl; page = sym (put-nil P) }

  pub bits-more : (A B : List ℕ) (i n at m : ℕ) → i < n → n * 52 ≤ length P → at ≤ i * 52 → Wrote (bits_bytes names listed i) P A at
      → Wrote (bit_in names listed i) (take (length A - at) (drop at A)) B m
      → Wrote (bits_bytes names listed (i + 1)) P (put_mid at (length A - at) A B) (at + m)
  unfolding bits_bytes
  bits-more A B i n at m l room most a b =
      rw (add-one i) (wrote_then P A B (bits_bytes names listed i) (bit_in names listed i) at m (omega arith) a b)

  pub bits-end : (Q : List ℕ) (i n r : ℕ) → i ≤ n → n ≤ i → Wrote (bits_bytes names listed i) P Q r → Wrote (bits_bytes names listed n) P Q r
  bits-end Q i n r l u w = let e : i ≡ n = omega arith in rw e at w

pub ruleset bits-laws = (bits-start, bits-more, bits-end)

-- the nest around them
pub bits-nest-wrote : (P A B names : List ℕ) (listed : ℕ → Bool) (n k r : ℕ) → n * 52 + 4 ≤ length P
    → Wrote (bits_bytes names listed n) (take (length P - 4) (drop 4 P)) A k → r ≡ k + 4
    → B ≡ put (put_mid 4 (length P - 4) P A) (attribute_header_bytes (k + 4) 32771) → Wrote (nest 3 (bits_bytes names listed n)) P B r
bits-nest-wrote P A B names listed n k r room w er q = nest-wrote P A B (bits_bytes names listed n) 3 k r (omega arith) w er q
