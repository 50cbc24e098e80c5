use Rattle.admission.proofs.Laws.{permission-laws}
use borrow.Author.Rules.{rules}
use Rattle.admission.proofs.not_permitted.Goals as goal

pub returns-then-command : goal.returns-then-command
returns-then-command c = search (rules, permission-laws)

pub returns : goal.returns
returns c = search (rules, permission-laws)
