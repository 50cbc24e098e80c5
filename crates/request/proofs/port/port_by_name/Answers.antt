use Rattle.request.proofs.port.Laws.{by_name}
use borrow.Author.Rules.{rules}
use Rattle.request.proofs.port.port_by_name.Goals as goal

pub returns : goal.returns
returns c = search (rules, by_name)
