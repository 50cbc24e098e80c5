use Rattle.strset_reply.proofs.length.Laws.{set-length-laws}
use borrow.Author.Rules.{rules}
use Rattle.strset_reply.proofs.length.set_length.Goals as goal

pub returns-then-counts : goal.returns-then-counts
returns-then-counts c = search (rules, set-length-laws)

pub strings_length-requires : goal.strings_length-requires
strings_length-requires c = search (rules, set-length-laws)

pub returns : goal.returns
returns c = search (rules, set-length-laws)
