use Rattle.answer.proofs.Laws.{called}
use borrow.Author.Rules.{rules}
use Rattle.answer.proofs.answer_one.Goals as goal

pub returns : goal.returns
returns c = search (rules, called)
