use Rattle.strset_reply.proofs.sets.Laws.{other-laws}
use borrow.Author.Rules.{rules}
use Rattle.strset_reply.proofs.sets.other_set.Goals as goal

pub returns-in-Debug : goal.returns-in-Debug
returns-in-Debug c = search (rules, other-laws)

pub returns-in-Flags : goal.returns-in-Flags
returns-in-Flags c = search (rules, other-laws)
