use Rattle.request.proofs.parts.Laws.{top-parts-are}
use borrow.Author.Rules.{rules}
use Rattle.request.proofs.parts.top_parts.Goals as goal

pub returns : goal.returns
returns c = search (rules, top-parts-are)
