use Rattle.bitset_reply.proofs.set.Laws.{verbose-wrote}
use borrow.Author.Rules.{rules}
use Rattle.bitset_reply.proofs.set.put_verbose.Goals as goal

pub returns : goal.returns
returns c = search (rules, verbose-wrote)
