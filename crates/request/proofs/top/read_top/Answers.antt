use Rattle.request.proofs.top.Laws.{top_laws}
use borrow.Author.Rules.{rules}
use Rattle.request.proofs.top.read_top.Goals as goal

pub returns-in-At : goal.returns-in-At
returns-in-At c = search (rules, top_laws)

pub returns : goal.returns
returns c = search (rules, top_laws)
