use Rattle.admission.proofs.Laws.{strset-laws}
use borrow.Author.Rules.{rules}
use Rattle.admission.proofs.permit_strset.Goals as goal

pub returns-then-is_dump : goal.returns-then-is_dump
returns-then-is_dump c = search (rules, strset-laws)

pub returns : goal.returns
returns c = search (rules, strset-laws)
