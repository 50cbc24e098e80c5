use Rattle.request.proofs.port.Laws.{port-laws}
use borrow.Author.Rules.{rules}
use Rattle.request.proofs.port.find_port.Goals as goal

pub returns-then-parts : goal.returns-then-parts
returns-then-parts c = search (rules, port-laws)

pub returns : goal.returns
returns c = search (rules, port-laws)
