use Rattle.layout.proofs.Laws.{widths-few}
use Rattle.boxes.proofs.settings.Laws.{clear-set, words-by}
use borrow.Author.Rules.{rules}
use Rattle.boxes.proofs.settings.set_clear.Goals as goal

pub set_at-held-requires : goal.set_at-held-requires
set_at-held-requires c = search (rules, words-by, widths-few)

pub returns : goal.returns
returns c = search (rules, clear-set)
