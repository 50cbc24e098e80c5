use Rattle.strset_request.proofs.set.Laws.{of-id-laws}
use borrow.Author.Rules.{rules}
use Rattle.strset_request.proofs.set.set_of_id.Goals as goal

pub returns-then-id-id_of : goal.returns-then-id-id_of
returns-then-id-id_of c = search (rules, of-id-laws)

pub returns-then-named : goal.returns-then-named
returns-then-named c = search (rules, of-id-laws)

pub returns-else-named : goal.returns-else-named
returns-else-named c = search (rules, of-id-laws)

pub returns-else-id-id_of-2 : goal.returns-else-id-id_of-2
returns-else-id-id_of-2 c = search (rules, of-id-laws)
