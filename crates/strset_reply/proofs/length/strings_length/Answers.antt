use Rattle.strset_reply.proofs.length.Laws.{strings-length-laws}
use borrow.Author.Rules.{rules}
use Rattle.strset_reply.proofs.length.strings_length.Goals as goal

pub loop-i-init : goal.loop-i-init
loop-i-init c = search (rules, strings-length-laws)

pub loop-i-preserved : goal.loop-i-preserved
loop-i-preserved c = search (rules, strings-length-laws)

pub returns : goal.returns
returns c = search (rules, strings-length-laws)
