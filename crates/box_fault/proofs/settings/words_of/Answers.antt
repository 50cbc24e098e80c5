use Rattle.layout.proofs.Laws.{widths-few}
use Rattle.box_fault.proofs.settings.Laws.{count-laws}
use borrow.Author.Rules.{rules}
use Rattle.box_fault.proofs.settings.words_of.Goals as goal

pub total_words-requires : goal.total_words-requires
total_words-requires c = search (rules, widths-few)

pub returns : goal.returns
returns c = search (rules, count-laws)
