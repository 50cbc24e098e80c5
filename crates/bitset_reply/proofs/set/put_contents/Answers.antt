use Rattle.bitset_reply.proofs.set.Laws.{contents-laws}
use borrow.Author.Rules.{rules}
use Rattle.bitset_reply.proofs.set.put_contents.Goals as goal

pub returns-then-compact : goal.returns-then-compact
returns-then-compact c = search (rules, contents-laws)

pub returns : goal.returns
returns c = search (rules, contents-laws)
