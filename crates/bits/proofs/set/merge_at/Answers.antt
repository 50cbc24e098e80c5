use lib.ListN.{length}
use Rattle.bits.proofs.Merge.{merge-part}
use Rattle.bits.proofs.set.merge_at.Goals as goal

pub returns : goal.returns
returns c =
    let start = c in
    let a = start.args in
    merge-part a.words.now c.merge_words.new.words a.mask.now a.value.now a.at (length a.mask.now) start.requires.0 c.merge_words.ensures
