use mathlib.Core.Path.{refl, sym}
use Rattle.bits.specs.Set.{has}
use Rattle.bits.proofs.Words.{has-past}
use Rattle.bits.proofs.set.test_bit.Goals as goal

pub returns-then-words-j : goal.returns-then-words-j
returns-then-words-j c = sym (has-past _ _ c.if-words-j.true)

pub returns : goal.returns
unfolding has
returns c = refl
