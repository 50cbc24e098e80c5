use Rattle.strset.proofs.Laws.{port-laws}
use borrow.Author.Rules.{rules}
use Rattle.strset.proofs.name_in.Goals as goal

pub returns-in-None : goal.returns-in-None
returns-in-None c = search (rules, port-laws)

pub name_of-requires : goal.name_of-requires
name_of-requires c = search (rules, port-laws)

pub returns-in-Some : goal.returns-in-Some
returns-in-Some c = search (rules, port-laws)
