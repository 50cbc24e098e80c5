use Rattle.response.proofs.Laws.{refuse-responds}
use borrow.Author.Rules.{rules}
use Rattle.response.proofs.refuse.Goals as goal

pub returns : goal.returns
returns c = search (rules, refuse-responds)
