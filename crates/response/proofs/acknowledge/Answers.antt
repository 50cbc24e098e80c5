use Rattle.response.proofs.Laws.{wrote-responds}
use borrow.Author.Rules.{rules}
use Rattle.response.proofs.acknowledge.Goals as goal

pub returns : goal.returns
returns c = search (rules, wrote-responds)
