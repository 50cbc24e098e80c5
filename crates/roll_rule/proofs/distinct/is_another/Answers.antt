use Rattle.roll_rule.proofs.distinct.Laws.{another-laws}
use borrow.Author.Rules.{rules}
use Rattle.roll_rule.proofs.distinct.is_another.Goals as goal

pub returns-then-index_of-number : goal.returns-then-index_of-number
returns-then-index_of-number c = search (rules, another-laws)

pub returns : goal.returns
returns c = search (rules, another-laws)
