use Rattle.strset.proofs.Laws.{strset-laws}
use borrow.Author.Rules.{rules}
use Rattle.strset.proofs.answer_strset.Goals as goal

pub returns-in-Err : goal.returns-in-Err
returns-in-Err c = search (rules, strset-laws)

pub answer_asked-requires : goal.answer_asked-requires
answer_asked-requires c = search (rules, strset-laws)

pub returns-in-Ok : goal.returns-in-Ok
returns-in-Ok c = search (rules, strset-laws)
