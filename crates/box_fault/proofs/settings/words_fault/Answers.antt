use Rattle.box_fault.proofs.settings.Laws.{words-laws}
use borrow.Author.Rules.{rules}
use Rattle.box_fault.proofs.settings.words_fault.Goals as goal

pub returns-then-settings_right : goal.returns-then-settings_right
returns-then-settings_right c = search (rules, words-laws)

pub returns : goal.returns
returns c = search (rules, words-laws)
