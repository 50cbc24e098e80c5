-- Laws of writing a set: writers in a row, by header flag 1, and the nest around them.
use Prim.Native.Nat.{ℕ, ◌+◌, ◌*◌, ◌-◌, ◌≤◌}
use mathlib.Core.Path.{◌≡◌}
use mathlib.Core.Bool.{Bool, true, false}
use mathlib.Core.List.{List, []}
use lib.ListN.{length, take, drop}
use native.Mathlib.Omega.{arith}
use borrow.Rule.Slice.PartMut.{put_mid}
use Rattle.basics.specs.Numbers.{le32}
use Rattle.basics.specs.Put.{put}
use Rattle.bits.specs.Set.{has}
use Rattle.word_bytes.specs.Bytes.{bytes_of}
use Rattle.page.specs.Page.{Wrote}
use Rattle.netlink_write.specs.Headers.{attribute_header_bytes}
use Rattle.netlink_write.specs.Attributes.{attr, nest}
use Rattle.page.proofs.Page.{wrote_then}
use Rattle.netlink_write.proofs.attributes.Laws.{nest-wrote}
use Rattle.bitset_reply.specs.List.{bits_bytes}
use Rattle.bitset_reply.specs.Set.{opening_bytes, compact_bytes, verbose_bytes, contents_bytes, set_bytes}

pub opening-wrote : (P A B : List ℕ) (n a s : ℕ) → 12 ≤ length P → a ≡ 4 → Wrote (attr 1 []) P A a
    → Wrote (attr 2 (le32 n)) (take (length A - 4) (drop 4 A)) B s → Wrote (opening_bytes n) P (put_mid 4 (length A - 4) A B) (4 + s)
unfolding opening_bytes
opening-wrote P A B n a s room ea wa wb = wrote_then P A B (attr 1 []) (attr 2 (le32 n)) 4 s (omega arith) (rw ea at wa) wb

-- behind the opening, which has 12 bytes
module _ (P A B words : List ℕ) (n a r : ℕ) (ea : a ≡ 12) (wa : Wrote (opening_bytes n) P A a) where
  pub compact-wrote : 80 ≤ length P → Wrote (attr 4 (bytes_of words)) (take (length A - 12) (drop 12 A)) B r
      → Wrote (compact_bytes words n) P (put_mid 12 (length A - 12) A B) (12 + r)
  unfolding compact_bytes
  compact-wrote room wb = wrote_then P A B (opening_bytes n) (attr 4 (bytes_of words)) 12 r (omega arith) (rw ea at wa) wb

  pub verbose-wrote : (names : List ℕ) → n * 52 + 16 ≤ length P
      → Wrote (nest 3 (bits_bytes names (has words) n)) (take (length A - 12) (drop 12 A)) B r
      → Wrote (verbose_bytes names words n) P (put_mid 12 (length A - 12) A B) (12 + r)
  unfolding verbose_bytes
  verbose-wrote names room wb = wrote_then P A B (opening_bytes n) (nest 3 (bits_bytes names (has words) n)) 12 r (omega arith) (rw ea at wa) wb

-- by header flag 1
module _ (P Q names words : List ℕ) (n r : ℕ) (compact : Bool) where
  pub contents-compact : compact ≡ true → Wrote (compact_bytes words n) P Q r → Wrote (contents_bytes compact names words n) P Q r
  unfolding contents_bytes
  contents-compact e w = rw e w

  pub contents-verbose : compact ≡ false → Wrote (verbose_bytes names words n) P Q r → Wrote (contents_bytes compact names words n) P Q r
  unfolding contents_bytes
  contents-verbose e w = rw e w

pub ruleset contents-laws = (contents-compact, contents-verbose)

pub set-wrote : (P A B names words : List ℕ) (n k r : ℕ) (compact : Bool) → 26644 ≤ length P
    → Wrote (contents_bytes compact names words n) (take (length P - 4) (drop 4 P)) A k → r ≡ k + 4
    → B ≡ put (put_mid 4 (length P - 4) P A) (attribute_header_bytes (k + 4) 32770) → Wrote (set_bytes compact names words n) P B r
unfolding set_bytes
set-wrote P A B names words n k r compact room w er q = nest-wrote P A B (contents_bytes compact names words n) 2 k r (omega arith) w er q
