use Rattle.layout.proofs.Laws.{list-laws}
use borrow.Author.Rules.{rules}
use Rattle.layout.proofs.names_of.Goals as goal

pub returns-in-Debug : goal.returns-in-Debug
returns-in-Debug c = search (rules, list-laws)

pub returns-in-Flags : goal.returns-in-Flags
returns-in-Flags c = search (rules, list-laws)
