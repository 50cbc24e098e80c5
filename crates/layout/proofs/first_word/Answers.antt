use Rattle.layout.proofs.Laws.{first-laws}
use borrow.Author.Rules.{rules}
use Rattle.layout.proofs.first_word.Goals as goal

pub returns-in-Debug : goal.returns-in-Debug
returns-in-Debug c = search (rules, first-laws)

pub returns-in-Flags : goal.returns-in-Flags
returns-in-Flags c = search (rules, first-laws)
