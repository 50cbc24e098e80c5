use Rattle.strset.proofs.Laws.{asked-laws}
use borrow.Author.Rules.{rules}
use Rattle.strset.proofs.answer_asked.Goals as goal

pub answer_content-requires : goal.answer_content-requires
answer_content-requires c = search (rules, asked-laws)

pub returns : goal.returns
returns c = search (rules, asked-laws)
