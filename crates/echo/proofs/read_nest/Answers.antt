use Rattle.echo.proofs.Laws.{nest-fault, nest-missing, nest-number}
use borrow.Author.Rules.{rules}
use Rattle.echo.proofs.read_nest.Goals as goal

pub returns-in-At : goal.returns-in-At
returns-in-At c = search (rules, nest-fault)

pub returns-then-not-number : goal.returns-then-not-number
returns-then-not-number c = search (rules, nest-missing)

pub returns : goal.returns
returns c = search (rules, nest-number)
