use Rattle.execute.proofs.Laws.{stored-words-laws}
use borrow.Author.Rules.{rules}
use Rattle.execute.proofs.replies.stored_words.Goals as goal

pub set_at-requires : goal.set_at-requires
set_at-requires c = search (rules, stored-words-laws)

pub returns : goal.returns
returns c = search (rules, stored-words-laws)
