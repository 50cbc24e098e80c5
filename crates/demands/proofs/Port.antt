-- In a right roll the name of each port has a NUL.
use Prim.Native.Nat.{ℕ, zero, suc, ◌≤◌, ◌<◌}
use mathlib.Core.Path.{◌≡◌}
use mathlib.Core.List.{List, [], ◌∷◌}
use mathlib.Core.Bool.{true, not}
use lib.ListN.{length, get_or}
use lib.Dec.{eqb}
use native.Mathlib.Omega.{arith}
use borrow.Author.Tests.{eqb-true}
use Rattle.basics.specs.Numbers.{byte_at}
use Rattle.basics.specs.Scan.{all}
use Rattle.basics.proofs.Truth.{both_true}
use Rattle.netlink.specs.Policy.{nul_at}
use Rattle.basics.specs.Nuls.{nul_then_nul}
use Rattle.roll.specs.Name.{name_right}
use Rattle.roll.specs.Record.{port_count, port_at, name_of}
use Rattle.roll_rule.specs.Rule.{roll_right}
use Rattle.roll.proofs.table.Laws.{name-long}
use Rattle.roll_rule.proofs.Meaning.{port-right}

-- where the first NUL of a list is at the latest
nul-by : (s : List ℕ) (k : ℕ) → k < length s → get_or s k 0 ≡ 0 → nul_at s ≤ k
unfolding nul_at
nul-by [] k l e = absurd (omega arith)
nul-by (zero ∷ s) k l e = omega arith
nul-by (suc b ∷ s) zero l e = absurd (omega arith)
nul-by (suc b ∷ s) (suc k) l e = let r = nul-by s k (omega arith) e in omega arith

pub port-short : (roll : List ℕ) (k : ℕ) → roll_right roll ≡ true → k < port_count roll → nul_at (port_at roll k).name < 16
unfolding name_right byte_at name_of
port-short roll k right l =
    let field = (port_at roll k).name in
    let named = (both_true (not (eqb (get_or field 0 0) 0)) _ (port-right roll right k l).name).1 in
    let last = (both_true (eqb (get_or field 15 0) 0) (all 15 (nul_then_nul field)) named).0 in
    let long = name-long roll k l in
    let r = nul-by field 15 (omega arith) (eqb-true _ _ last) in
    omega arith
