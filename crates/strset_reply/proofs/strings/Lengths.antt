-- How long STRINGS is: whole words, at most 52 bytes for an entry, and longer with each entry.
use Prim.Native.Nat.{ℕ, zero, suc, ◌+◌, ◌*◌, ◌%◌, ◌≤◌, ◌<◌}
use mathlib.Core.Path.{◌≡◌, refl}
use mathlib.Core.List.{List}
use mathlib.Core.Logic.{⊎_elim}
use lib.ListN.{length, length-append}
use native.Mathlib.Omega.{arith}
use Rattle.basics.specs.Numbers.{le32}
use Rattle.basics.proofs.Order.{lt-or-ge}
use Rattle.entries.specs.Entry.{entry_at}
use Rattle.entries.proofs.Entries.{entry-most}
use Rattle.netlink_headers.specs.Lengths.{round_up4}
use Rattle.netlink.specs.Policy.{nul_at}
use Rattle.netlink_write.specs.Attributes.{attr, name_bytes}
use Rattle.netlink_write.proofs.attributes.Laws.{length-attr, length-nest, nul-le}
use Rattle.netlink_write.proofs.exact_name.Laws.{length-name-attr}
use Rattle.strset_reply.specs.Strings.{index_and_value, string_bytes, strings_bytes}

pub length-value : (index : ℕ) (name : List ℕ) → length (index_and_value index name) ≡ round_up4 (nul_at name + 5) + 8
unfolding index_and_value
length-value index name =
    omega (arith, length-append (attr 1 (le32 index)) (attr 2 (name_bytes name)), length-attr 1 (le32 index), length-name-attr 2 name)

-- one STRING
module _ (names : List ℕ) (i : ℕ) where
  pub length-string : length (string_bytes names i) ≡ round_up4 (nul_at (entry_at names i) + 5) + 12
  unfolding string_bytes
  length-string =
      omega (arith, length-nest 1 (index_and_value i (entry_at names i)), length-value i (entry_at names i))

  pub string-most : length (string_bytes names i) ≤ 52
  string-most = omega (arith, length-string, nul-le (entry_at names i), entry-most names i)

-- those of the entries below n
module _ (names : List ℕ) where
  pub length_more : (n : ℕ) → length (strings_bytes names (suc n)) ≡ length (strings_bytes names n) + length (string_bytes names n)
  unfolding strings_bytes
  length_more n = length-append (strings_bytes names n) (string_bytes names n)

  pub strings-whole : (n : ℕ) → length (strings_bytes names n) % 4 ≡ 0
  unfolding strings_bytes
  strings-whole zero = refl
  strings-whole (suc n) = omega (arith, length_more n, strings-whole n, length-string names n)

  pub strings-most : (n : ℕ) → length (strings_bytes names n) ≤ n * 52
  unfolding strings_bytes
  strings-most zero = omega arith
  strings-most (suc n) = omega (arith, length_more n, strings-most n, string-most names n)

  pub strings-rise : (i n : ℕ) → i ≤ n → length (strings_bytes names i) ≤ length (strings_bytes names n)
  strings-rise i zero h = let e : i ≡ 0 = omega arith in rw e (omega arith)
  strings-rise i (suc n) h =
      ⊎_elim
      (λ (l : i < suc n). omega (arith, length_more n, strings-rise i n (omega arith)))
      (λ (l : suc n ≤ i). let e : i ≡ suc n = omega arith in rw e (omega arith))
      (lt-or-ge i (suc n))

  -- so there is room for the next
  pub strings-next : (i n : ℕ) → i < n → length (strings_bytes names i) + length (string_bytes names i) ≤ length (strings_bytes names n)
  strings-next i n h = omega (arith, length_more i, strings-rise (suc i) n (omega arith))
