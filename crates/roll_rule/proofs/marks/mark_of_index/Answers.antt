use Rattle.roll_rule.proofs.marks.Laws.{mark-index}
use borrow.Author.Rules.{rules}
use Rattle.roll_rule.proofs.marks.mark_of_index.Goals as goal

pub returns : goal.returns
returns c = search (rules, mark-index)
