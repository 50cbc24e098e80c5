use Rattle.layout.proofs.Laws.{size-laws}
use borrow.Author.Rules.{rules}
use Rattle.layout.proofs.size_of.Goals as goal

pub returns-in-Debug : goal.returns-in-Debug
returns-in-Debug c = search (rules, size-laws)

pub returns-in-Flags : goal.returns-in-Flags
returns-in-Flags c = search (rules, size-laws)
