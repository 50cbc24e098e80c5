use Rattle.strset.proofs.Laws.{port-laws}
use borrow.Author.Rules.{rules}
use Rattle.strset.proofs.index_in.Goals as goal

pub returns-in-None : goal.returns-in-None
returns-in-None c = search (rules, port-laws)

pub index_of-requires : goal.index_of-requires
index_of-requires c = search (rules, port-laws)

pub returns-in-Some : goal.returns-in-Some
returns-in-Some c = search (rules, port-laws)
