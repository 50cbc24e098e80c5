use Rattle.bits.proofs.Merge.{merge-word}
use Rattle.bits.proofs.word.merge_word.Goals as goal

pub returns : goal.returns
returns c = merge-word c.args.mask c.args.value c.args.word c.ranges.mask.fits c.ranges.value.fits c.ranges.word.fits
