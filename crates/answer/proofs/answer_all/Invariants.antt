use Prim.Native.Nat.{◌+◌, ◌-◌}
use mathlib.Core.Path.{◌≡◌}
use lib.ListN.{length}
use Rattle.boxes.specs.Box.{state_of}
use Rattle.answer.proofs.Laws.{SoFar}
use Rattle.answer.proofs.answer_all.Given as goal

abbrev pub invariant-loop-a : goal.invariant-loop-a
invariant-loop-a l =
    SoFar l.datagram (state_of l.settings) l.at l.place l.written.count × (length l.page ≡ 32768) × (length l.page ≡ length l.initial.page) × (length l.settings ≡ length l.initial.settings)

abbrev pub decreases-loop-a : goal.decreases-loop-a
decreases-loop-a l = length l.datagram - (l.at + l.place)
