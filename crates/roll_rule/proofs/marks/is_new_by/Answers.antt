use Rattle.roll_rule.proofs.marks.Laws.{new-fresh}
use borrow.Author.Rules.{rules}
use Rattle.roll_rule.proofs.marks.is_new_by.Goals as goal

pub returns-then-names-n-eq0 : goal.returns-then-names-n-eq0
returns-then-names-n-eq0 c = search (rules, new-fresh)
