-- Read back: the name that a reply writes for a bit is found at this bit.
use Prim.Native.Nat.{ℕ, zero, suc, ◌+◌, ◌-◌, ◌≤◌, ◌<◌}
use mathlib.Core.Path.{◌≡◌, refl, sym, ap, ◌∙◌}
use mathlib.Core.Bool.{true, false}
use mathlib.Core.List.{List, [], ◌∷◌, ◌++◌}
use lib.ListN.{take, get_or}
use lib.Seq.{take-suc}
use lib.Dec.{eqb}
use native.Mathlib.Omega.{arith}
use Rattle.entries.specs.Entry.{count, entry_at}
use Rattle.entries.proofs.Entries.{entry_length}
use Rattle.names.specs.Rule.{names_right}
use Rattle.names.specs.Search.{found_at, lookup}
use Rattle.names.proofs.Rules.{right-means, nul-after}
use Rattle.names.proofs.Search.{lookup-name}
use Rattle.netlink.specs.Policy.{nul_at}
use Rattle.netlink_write.specs.Attributes.{name_bytes}
use Rattle.index_name.proofs.Laws.{name-first}

nul-there : (s : List ℕ) → get_or s (nul_at s) 0 ≡ 0
unfolding nul_at
nul-there [] = refl
nul-there (zero ∷ s) = refl
nul-there (suc b ∷ s) = nul-there s

module _ (names : List ℕ) (right : names_right names ≡ true) (i : ℕ) (l : i < count names) (short : nul_at (entry_at names i) < 32) where
  abbrev entry : List ℕ
  entry = entry_at names i

  -- its bytes up to its first NUL, this one too
  name-taken : name_bytes entry ≡ take (suc (nul_at entry)) entry
  unfolding name_bytes
  name-taken =
      sym
      (take-suc entry (nul_at entry) 0 (omega (arith, entry_length names i l))
      ∙ ap (λ (b : ℕ). take (nul_at entry) entry ++ (b ∷ [])) (nul-there entry))

  nuls-behind : (j : ℕ) → suc (nul_at entry) ≤ j → j < 32 → get_or entry j 0 ≡ 0
  nuls-behind j h u =
      let k : nul_at entry + (j - nul_at entry) ≡ j = omega arith in
      ap (λ (x : ℕ). get_or entry x 0) (sym k)
      ∙ nul-after entry ((right-means names right).each i l) (nul_at entry) (j - nul_at entry) (nul-there entry) (omega arith)

  pub own-name-found : eqb (nul_at entry) 0 ≡ false → lookup names (name_bytes entry) ≡ found_at names (name_bytes entry) i
  own-name-found some =
      rw name-taken
      (lookup-name names right i (suc (nul_at entry)) l (name-first entry ∙ some) (omega arith) nuls-behind)
