use Rattle.roll.proofs.name.Laws.{named-laws}
use borrow.Author.Rules.{rules}
use Rattle.roll.proofs.name.holds_name.Goals as goal

pub returns-then-name-gt16 : goal.returns-then-name-gt16
returns-then-name-gt16 c = search (rules, named-laws)

pub returns : goal.returns
returns c = search (rules, named-laws)
