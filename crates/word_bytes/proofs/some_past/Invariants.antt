-- The words below j have no bit from n to size.
use Rattle.word_bytes.specs.Bytes.{words_in}
use Rattle.bits.proofs.Cut.{NonePast}
use Rattle.word_bytes.proofs.some_past.Given as goal

-- The words below j have no bit from n to size.
abbrev pub invariant-loop-j : goal.invariant-loop-j
invariant-loop-j l = NonePast (words_in l.bytes) l.n l.size l.j
