use Prim.Native.Nat.{◌≤◌, ◌-◌}
use mathlib.Core.Path.{◌≡◌}
use Rattle.basics.specs.Scan.{any}
use Rattle.netlink.specs.NulSearch.{is_nul}
use Rattle.netlink.proofs.policy.some_nul.Given as goal

abbrev pub invariant-loop-j : goal.invariant-loop-j
invariant-loop-j l = (l.j ≤ l.n) × (l.some ≡ any l.j (is_nul l.s l.at))

abbrev pub decreases-loop-j : goal.decreases-loop-j
decreases-loop-j l = l.n - l.j
