use Rattle.bits.proofs.Cut.{between_is}
use Rattle.bits.proofs.word.bit_between.Goals as goal

pub returns : goal.returns
returns c = between_is _ _ _ _ _ _ c.cut_word-cut.ensures c.cut_word.ensures
