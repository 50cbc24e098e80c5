use Rattle.roll_rule.specs.Marks.{index_mark}
use borrow.Author.Rules.{rules}
use Rattle.roll_rule.proofs.marks.index_mark.Goals as goal

pub returns : goal.returns
unfolding index_mark
returns c = search rules
