use Rattle.strset_reply.proofs.sets.Laws.{if-laws}
use borrow.Author.Rules.{rules}
use Rattle.strset_reply.proofs.sets.put_strings_if.Goals as goal

pub returns-then-counts : goal.returns-then-counts
returns-then-counts c = search (rules, if-laws)

pub put_strings_nest-requires : goal.put_strings_nest-requires
put_strings_nest-requires c = search (rules, if-laws)

pub returns : goal.returns
returns c = search (rules, if-laws)
