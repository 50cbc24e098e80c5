use Rattle.echo.proofs.Laws.{answered-laws}
use borrow.Author.Rules.{rules}
use Rattle.echo.proofs.answer.Goals as goal

pub returns-then-page-lt52 : goal.returns-then-page-lt52
returns-then-page-lt52 c = search (rules, answered-laws)

pub returns-in_default : goal.returns-in_default
returns-in_default c = search (rules, answered-laws)

pub put_error-requires : goal.put_error-requires
put_error-requires c = search (rules, answered-laws)

pub returns-in-Number : goal.returns-in-Number
returns-in-Number c = search (rules, answered-laws)

pub returns-in-Refused : goal.returns-in-Refused
returns-in-Refused c = search (rules, answered-laws)
