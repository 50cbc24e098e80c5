-- The search stands before the entry p, counted from 1; then entry i is compared, and its bytes from j on are the name's.
use Prim.Native.Nat.{◌≤◌, ◌-◌, ◌/◌}
use lib.ListN.{length, get_or}
use Rattle.names.proofs.Search.{Sought, SameFrom}
use Rattle.name_index.proofs.Along.{Along, Looking}
use Rattle.name_index.proofs.find.Given as goal

-- The search stands before the entry p, counted from 1; then entry i is compared, and its bytes from j on are the name's.
abbrev pub invariant-loop-j : goal.invariant-loop-j
invariant-loop-j l = (l.j ≤ l.end) × Sought l.name l.n l.end (get_or l.name l.end 0) × Looking l.names l.name l.i l.p l.compared × SameFrom l.names l.name l.i l.j

abbrev pub invariant-entries : goal.invariant-entries
invariant-entries l = Sought l.name l.n l.end (get_or l.name l.end 0) × Along l.names l.name l.p l.compared

abbrev pub decreases-entries : goal.decreases-entries
decreases-entries l = length l.names / 32 - l.compared
