use Rattle.answer.proofs.Laws.{goes-refused}
use borrow.Author.Rules.{rules}
use Rattle.answer.proofs.goes_on.Goals as goal

pub returns-in-Refused : goal.returns-in-Refused
returns-in-Refused c = search (rules, goes-refused)
