use Rattle.echo.proofs.Laws.{reply-wrote}
use borrow.Author.Rules.{rules}
use Rattle.echo.proofs.put_number_reply.Goals as goal

pub returns : goal.returns
returns c = search (rules, reply-wrote)
