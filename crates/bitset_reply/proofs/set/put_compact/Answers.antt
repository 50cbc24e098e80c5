use Rattle.bitset_reply.proofs.set.Laws.{compact-wrote}
use borrow.Author.Rules.{rules}
use Rattle.bitset_reply.proofs.set.put_compact.Goals as goal

pub returns : goal.returns
returns c = search (rules, compact-wrote)
