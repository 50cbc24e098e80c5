use mathlib.Core.Path.{◌≡◌, sym, ap, ◌∙◌}
use native.Mathlib.Omega.{arith}
use lib.ListN.{length, length-set}
use lib.Seq.{take_all}
use Rattle.basics.specs.Put.{put}
use Rattle.basics.proofs.Put.{put-nil, put_whole}
use Rattle.bits.specs.Set.{has, words_of}
use Rattle.bits.specs.Change.{merge}
use Rattle.bits.proofs.Merge.{merge-turn}
use Rattle.bits.proofs.Words.{length-words_of}
use Rattle.bits.proofs.set.merge_words.Goals as goal

pub loop-j-init : goal.loop-j-init
loop-j-init c = (omega arith, sym (put-nil _), omega arith)

pub loop-j-preserved : goal.loop-j-preserved
loop-j-preserved c =
    let l = c.loop-j in
    let a = c.args in (
      omega arith,
      merge-turn a.words.now a.mask.now a.value.now l.words l.j c.merge_word.result (omega arith) l.invariant.1 c.merge_word.ensures,
      simp length-set (omega arith),
    )

pub returns : goal.returns
returns c =
    let a = c.args in
    let ws = a.words.now in
    let f = merge (has a.mask.now) (has a.value.now) (has ws) in
    let len : length (words_of (length ws) f) ≡ length ws = length-words_of (length ws) f in
    c.loop-j.invariant.1 ∙ ap (put ws) (take_all c.loop-j.j (words_of (length ws) f) (omega arith)) ∙ put_whole ws (words_of (length ws) f) (omega arith)
