-- The bytes of the words below j are written.
use Prim.Native.Nat.{◌≤◌}
use mathlib.Core.Path.{◌≡◌}
use lib.ListN.{length, take}
use Rattle.basics.specs.Put.{put}
use Rattle.word_bytes.specs.Bytes.{bytes_of}
use Rattle.word_bytes.proofs.write_words.Given as goal

-- The bytes of the words below j are written.
abbrev pub invariant-loop-j : goal.invariant-loop-j
invariant-loop-j l = (l.j ≤ length l.words) × (l.bytes ≡ put l.initial.bytes (bytes_of (take l.j l.words))) × (length l.bytes ≡ length l.initial.bytes)
