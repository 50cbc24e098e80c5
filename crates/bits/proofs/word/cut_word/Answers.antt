use Rattle.bits.proofs.Cut.{cut-is}
use Rattle.bits.proofs.word.cut_word.Goals as goal

pub returns : goal.returns
returns c = cut-is _ _ _ _ c.ranges.word.fits c.below.ensures
