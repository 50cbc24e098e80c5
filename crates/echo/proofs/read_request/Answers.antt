use Rattle.echo.proofs.Laws.{request-laws}
use borrow.Author.Rules.{rules}
use Rattle.echo.proofs.read_request.Goals as goal

pub returns-in_default : goal.returns-in_default
returns-in_default c = search (rules, request-laws)

pub returns-then-generic-ne-COMMAND : goal.returns-then-generic-ne-COMMAND
returns-then-generic-ne-COMMAND c = search (rules, request-laws)

pub returns-in-At : goal.returns-in-At
returns-in-At c = search (rules, request-laws)

pub returns-then-not-nest : goal.returns-then-not-nest
returns-then-not-nest c = search (rules, request-laws)

pub returns : goal.returns
returns c = search (rules, request-laws)
