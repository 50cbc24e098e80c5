use Prim.Native.Nat.{◌≤◌, ◌-◌}
use mathlib.Core.Path.{◌≡◌}
use Rattle.bits.specs.Set.{has}
use Rattle.word_bytes.specs.Bytes.{words_in}
use Rattle.bitset_form.specs.Form.{both}
use Rattle.bitset_form.proofs.Laws.{filled}
use Rattle.bitset_form.proofs.within.Given as goal

abbrev pub invariant-loop-j : goal.invariant-loop-j
invariant-loop-j l = (l.j ≤ 16) × (l.word-items ≡ filled (both (has l.mask) (has (words_in l.bitmap))) l.j)

abbrev pub decreases-loop-j : goal.decreases-loop-j
decreases-loop-j l = 16 - l.j
