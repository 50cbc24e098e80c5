use Rattle.strset_request.proofs.list.Laws.{asked-laws}
use borrow.Author.Rules.{rules}
use Rattle.strset_request.proofs.list.with_asked.Goals as goal

pub returns-then-eq : goal.returns-then-eq
returns-then-eq c = search (rules, asked-laws)

pub returns-in-Nothing : goal.returns-in-Nothing
returns-in-Nothing c = search (rules, asked-laws)

pub returns-else-eq : goal.returns-else-eq
returns-else-eq c = search (rules, asked-laws)

pub returns-in-Both : goal.returns-in-Both
returns-in-Both c = search (rules, asked-laws)
