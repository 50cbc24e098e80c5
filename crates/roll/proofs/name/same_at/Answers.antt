use Rattle.roll.proofs.name.Laws.{four-compared}
use borrow.Author.Rules.{rules}
use Rattle.roll.proofs.name.same_at.Goals as goal

pub returns : goal.returns
returns c = search (rules, four-compared)
