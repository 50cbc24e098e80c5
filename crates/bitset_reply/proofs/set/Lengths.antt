-- How long the contents of a set are: whole words, and at most 24,592 bytes where the names are right.
use Prim.Native.Nat.{ℕ, ◌+◌, ◌*◌, ◌%◌, ◌≤◌}
use mathlib.Core.Path.{◌≡◌, ap, ◌∙◌}
use mathlib.Core.Bool.{Bool, true, false}
use mathlib.Core.List.{List, []}
use lib.ListN.{length, length-append}
use native.Mathlib.Omega.{arith}
use Rattle.basics.specs.Numbers.{le32}
use Rattle.bits.specs.Set.{has, words_for}
use Rattle.word_bytes.specs.Bytes.{bytes_of}
use Rattle.word_bytes.proofs.WordBytes.{length-bytes_of}
use Rattle.page.specs.Page.{Wrote}
use Rattle.netlink_write.specs.Attributes.{attr, nest}
use Rattle.netlink_write.proofs.attributes.Laws.{length-attr, length-nest}
use Rattle.bitset_reply.specs.List.{bits_bytes}
use Rattle.bitset_reply.specs.Set.{opening_bytes, compact_bytes, verbose_bytes, contents_bytes}
use Rattle.bitset_reply.proofs.list.Lengths.{Short, bits-whole, bits_most}

pub length-opening : (n : ℕ) → length (opening_bytes n) ≡ 12
unfolding opening_bytes
length-opening n = omega (arith, length-append (attr 1 []) (attr 2 (le32 n)), length-attr 1 [], length-attr 2 (le32 n))

module _ (names words : List ℕ) (n : ℕ) where
  length-compact : length (compact_bytes words n) ≡ 16 + length words * 4
  unfolding compact_bytes
  length-compact =
      omega (arith, length-append (opening_bytes n) (attr 4 (bytes_of words)), length-opening n, length-attr 4 (bytes_of words), length-bytes_of words)

  length-verbose : length (verbose_bytes names words n) ≡ 16 + length (bits_bytes names (has words) n)
  unfolding verbose_bytes
  length-verbose =
      omega (arith, length-append (opening_bytes n) (nest 3 (bits_bytes names (has words) n)), length-opening n, length-nest 3 (bits_bytes names (has words) n))

  pub contents-whole : (compact : Bool) → length (contents_bytes compact names words n) % 4 ≡ 0
  unfolding contents_bytes
  contents-whole true = omega (arith, length-compact)
  contents-whole false = omega (arith, length-verbose, bits-whole names (has words) n)

  -- so what was written can be closed as a nest
  pub contents-close : (P Q : List ℕ) (k : ℕ) (compact : Bool) → Wrote (contents_bytes compact names words n) P Q k → k % 4 ≡ 0
  contents-close P Q k compact w = ap (λ (x : ℕ). x % 4) w.count ∙ contents-whole compact

  pub contents-most : (compact : Bool) → n ≤ 512 → length words ≡ words_for n → Short names n → length (contents_bytes compact names words n) ≤ 24592
  unfolding contents_bytes
  contents-most true few ew short = omega (arith, length-compact)
  contents-most false few ew short = omega (arith, length-verbose, bits_most names (has words) n short)
