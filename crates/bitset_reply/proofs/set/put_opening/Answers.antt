use Rattle.bitset_reply.proofs.set.Laws.{opening-wrote}
use borrow.Author.Rules.{rules}
use Rattle.bitset_reply.proofs.set.put_opening.Goals as goal

pub returns : goal.returns
returns c = search (rules, opening-wrote)
