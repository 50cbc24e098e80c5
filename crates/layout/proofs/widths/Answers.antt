use Rattle.layout.proofs.Laws.{widths-are}
use borrow.Author.Rules.{rules}
use Rattle.layout.proofs.widths.Goals as goal

pub returns : goal.returns
returns c = search (rules, widths-are)
