-- No promise rests on this file: how an entry's rule is checked, half by half.
use Rattle.std.specs.Prelude.{ℕ, Bool, ◌&&◌, List, get_or, eqb}
use Rattle.basics.specs.Scan.{all}
use Rattle.numbers.specs.Pairs.{pair_at}
use Rattle.entries.specs.Entry.{entry_at}

-- in the first half of an entry each NUL is followed by a NUL, and the entry's last byte is NUL
unfoldable pub low_half : List ℕ → Bool
low_half e = eqb (get_or e 31 0) 0 && all 16 (pair_at e 0)

-- so it is in its second half, which begins with the last byte of the first
unfoldable pub high_half : List ℕ → Bool
high_half e = all 16 (pair_at e 15)

-- whether the first half of entry i is so
unfoldable pub low_right : List ℕ → ℕ → Bool
low_right names i = low_half (entry_at names i)

-- whether its second half is
unfoldable pub high_right : List ℕ → ℕ → Bool
high_right names i = high_half (entry_at names i)
