-- The words below j are read.
use Prim.Native.Nat.{◌/◌}
use mathlib.Core.Path.{◌≡◌}
use lib.ListN.{length, take}
use Rattle.basics.specs.Put.{put}
use Rattle.word_bytes.specs.Bytes.{words_in}
use Rattle.word_bytes.proofs.read_words.Given as goal

-- The words below j are read.
abbrev pub invariant-loop-j : goal.invariant-loop-j
invariant-loop-j l = record {
  read : l.word-items ≡ put l.initial.word-items (take l.j (words_in l.bytes));
  room : length l.initial.word-items ≡ length l.bytes / 4;
  same_length : length l.word-items ≡ length l.bytes / 4;
}
