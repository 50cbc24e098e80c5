use Rattle.execute.proofs.replies.Laws.{get-responds}
use borrow.Author.Rules.{rules}
use Rattle.execute.proofs.replies.get.Goals as goal

pub returns : goal.returns
returns c = search (rules, get-responds)
