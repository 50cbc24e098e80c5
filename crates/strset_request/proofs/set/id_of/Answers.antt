use Rattle.strset_request.proofs.set.Laws.{id-laws}
use borrow.Author.Rules.{rules}
use Rattle.strset_request.proofs.set.id_of.Goals as goal

pub returns-in-Debug : goal.returns-in-Debug
returns-in-Debug c = search (rules, id-laws)

pub returns-in-Flags : goal.returns-in-Flags
returns-in-Flags c = search (rules, id-laws)
