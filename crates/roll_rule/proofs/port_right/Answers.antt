use Rattle.roll_rule.proofs.Laws.{port-laws}
use borrow.Author.Rules.{rules}
use Rattle.roll_rule.proofs.port_right.Goals as goal

pub returns-then-number-lt1 : goal.returns-then-number-lt1
returns-then-number-lt1 c = search (rules, port-laws)

pub returns-then-number-gt2147483647 : goal.returns-then-number-gt2147483647
returns-then-number-gt2147483647 c = search (rules, port-laws)

pub returns : goal.returns
returns c = search (rules, port-laws)
