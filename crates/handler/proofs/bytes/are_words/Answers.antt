use Rattle.handler.proofs.bytes.Laws.{words-odd, words-whole}
use borrow.Author.Rules.{rules}
use Rattle.handler.proofs.bytes.are_words.Goals as goal

pub returns-then-settings-ne0 : goal.returns-then-settings-ne0
returns-then-settings-ne0 c = search (rules, words-odd)

pub returns : goal.returns
returns c = search (rules, words-whole)
