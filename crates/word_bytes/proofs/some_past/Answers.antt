use native.Mathlib.Omega.{arith}
use Rattle.word_bytes.specs.Bytes.{words_in}
use Rattle.bits.proofs.Cut.{past-start, past_more, past-found, past-done}
use Rattle.word_bytes.proofs.WordBytes.{length-words_in}
use Rattle.word_bytes.proofs.some_past.Goals as goal

pub loop-j-init : goal.loop-j-init
loop-j-init c = past-start _ _ _

pub returns-then-bit_between : goal.returns-then-bit_between
returns-then-bit_between c = past-found _ _ _ _ _ c.word_in.ensures _ c.bit_between.ensures c.if-bit_between.true

pub loop-j-preserved : goal.loop-j-preserved
loop-j-preserved c = past_more _ _ _ _ _ c.word_in.ensures _ c.bit_between.ensures c.if-bit_between.false c.loop-j.invariant

pub returns : goal.returns
returns c = let a = c.args in past-done (words_in a.bytes.now) a.n a.size c.loop-j.j (omega (arith, length-words_in a.bytes.now)) c.loop-j.invariant
