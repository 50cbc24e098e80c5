use borrow.Author.Rules.{rules}
use Rattle.bits.proofs.Cut.{clear-start, clear-more, clear-not, clear-done}
use Rattle.bits.proofs.set.none_from.Goals as goal

pub loop-j-init : goal.loop-j-init
loop-j-init c = clear-start _ _

pub returns-then-words-j : goal.returns-then-words-j
returns-then-words-j c = clear-not _ _ _ _ c.cut_word.ensures (search rules) (c.type_inv.words _).fits c.if-words-j.true

pub loop-j-preserved : goal.loop-j-preserved
loop-j-preserved c = clear-more _ _ _ _ c.cut_word.ensures c.if-words-j.false c.loop-j.invariant

pub returns : goal.returns
returns c = clear-done _ _ _ c.loop-j-test.false c.loop-j.invariant
