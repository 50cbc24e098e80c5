use Rattle.request.proofs.port.Laws.{other-laws}
use borrow.Author.Rules.{rules}
use Rattle.request.proofs.port.other_name.Goals as goal

pub returns-then-not-name : goal.returns-then-not-name
returns-then-not-name c = search (rules, other-laws)

pub returns : goal.returns
returns c = search (rules, other-laws)
