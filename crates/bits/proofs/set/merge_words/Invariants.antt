-- The words below j are the changed ones.
use Prim.Native.Nat.{◌≤◌}
use mathlib.Core.Path.{◌≡◌}
use lib.ListN.{length, take}
use Rattle.basics.specs.Put.{put}
use Rattle.bits.specs.Set.{has, words_of}
use Rattle.bits.specs.Change.{merge}
use Rattle.bits.proofs.set.merge_words.Given as goal

-- The words below j are the changed ones.
abbrev pub invariant-loop-j : goal.invariant-loop-j
invariant-loop-j l = (l.j ≤ length l.initial.words) × (l.words ≡ put l.initial.words (take l.j (words_of (length l.initial.words) (merge (has l.mask) (has l.value) (has l.initial.words))))) × (length l.words ≡ length l.initial.words)
