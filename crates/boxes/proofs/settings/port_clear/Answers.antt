use Rattle.boxes.proofs.settings.Laws.{port-laws}
use borrow.Author.Rules.{rules}
use Rattle.boxes.proofs.settings.port_clear.Goals as goal

pub returns-then-not-set_clear : goal.returns-then-not-set_clear
returns-then-not-set_clear c = search (rules, port-laws)

pub returns : goal.returns
returns c = search (rules, port-laws)
