use Rattle.strset_reply.proofs.length.Laws.{sets-length-laws}
use borrow.Author.Rules.{rules}
use Rattle.strset_reply.proofs.length.sets_length.Goals as goal

pub returns-in-Nothing : goal.returns-in-Nothing
returns-in-Nothing c = search (rules, sets-length-laws)

pub returns-in-One : goal.returns-in-One
returns-in-One c = search (rules, sets-length-laws)

pub returns-in-Both : goal.returns-in-Both
returns-in-Both c = search (rules, sets-length-laws)
