use Rattle.request.proofs.optional.Laws.{header-laws}
use borrow.Author.Rules.{rules}
use Rattle.request.proofs.optional.read_optional_header.Goals as goal

pub returns-in-At : goal.returns-in-At
returns-in-At c = search (rules, header-laws)

pub returns : goal.returns
returns c = search (rules, header-laws)
