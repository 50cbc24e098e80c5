use lib.ListN.{length, take}
use Prim.Native.Nat.{◌≤◌}
use mathlib.Core.Path.{◌≡◌}
use Rattle.box_fault.specs.Settings.{with_zeros, right_with_zeros}
use Rattle.box_fault.proofs.longest.Laws.{From}
use Rattle.box_fault.proofs.settings.right_words.Given as goal

abbrev pub invariant-loop-n : goal.invariant-loop-n
invariant-loop-n l = (l.n ≤ length l.initial.words) × (length l.words ≡ length l.initial.words) × (l.words ≡ with_zeros l.ports l.sizes (take l.n l.initial.words)) × From (right_with_zeros l.ports l.sizes) l.initial.words l.n

abbrev pub decreases-loop-n : goal.decreases-loop-n
decreases-loop-n l = l.n
