-- The entries before `next` are passed, and `compared` of them agree with the name; entry i, the next that has its last byte, does too where it is as long, and
-- its bytes from j on are the name's.
use Prim.Native.Nat.{◌+◌, ◌≤◌, ◌<◌, ◌-◌, ◌/◌}
use mathlib.Core.Path.{◌≡◌}
use lib.ListN.{length, get_or}
use Rattle.names.proofs.Search.{Sought, Passed, Comparing, SameFrom}
use Rattle.names.proofs.find_name.Given as goal

-- The entries before `next` are passed, and `compared` of them agree with the name; entry i, the next that has its last byte, does too where it is as long, and
-- its bytes from j on are the name's.
abbrev pub invariant-loop-j : goal.invariant-loop-j
invariant-loop-j l = (l.j ≤ l.end) × (l.next ≡ l.i + 1) × (l.i < length l.names / 32) × Sought l.name l.n l.end (get_or l.name l.end 0) × Comparing l.names l.name l.i l.compared × SameFrom l.names l.name l.i l.j

abbrev pub invariant-entries : goal.invariant-entries
invariant-entries l = (l.next ≤ length l.names / 32) × Sought l.name l.n l.end (get_or l.name l.end 0) × Passed l.names l.name l.next l.compared

abbrev pub decreases-entries : goal.decreases-entries
decreases-entries l = length l.names / 32 - l.next
