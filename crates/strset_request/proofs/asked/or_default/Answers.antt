use Rattle.strset_request.proofs.asked.Laws.{default-laws}
use borrow.Author.Rules.{rules}
use Rattle.strset_request.proofs.asked.or_default.Goals as goal

pub returns-then-named : goal.returns-then-named
returns-then-named c = search (rules, default-laws)

pub returns-else-named : goal.returns-else-named
returns-else-named c = search (rules, default-laws)

pub returns-in-One : goal.returns-in-One
returns-in-One c = search (rules, default-laws)

pub returns-in-Both : goal.returns-in-Both
returns-in-Both c = search (rules, default-laws)
