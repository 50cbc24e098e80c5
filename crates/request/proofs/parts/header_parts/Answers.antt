use Rattle.request.proofs.parts.Laws.{header-parts-are}
use borrow.Author.Rules.{rules}
use Rattle.request.proofs.parts.header_parts.Goals as goal

pub returns : goal.returns
returns c = search (rules, header-parts-are)
