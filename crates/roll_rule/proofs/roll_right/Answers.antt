use Rattle.roll_rule.proofs.Laws.{roll-laws}
use borrow.Author.Rules.{rules}
use Rattle.roll_rule.proofs.roll_right.Goals as goal

pub returns-then-ports-lt1 : goal.returns-then-ports-lt1
returns-then-ports-lt1 c = search (rules, roll-laws)

pub returns-then-not-ports_right : goal.returns-then-not-ports_right
returns-then-not-ports_right c = search (rules, roll-laws)

pub returns-then-count-le-FEW : goal.returns-then-count-le-FEW
returns-then-count-le-FEW c = search (rules, roll-laws)

pub returns : goal.returns
returns c = search (rules, roll-laws)
