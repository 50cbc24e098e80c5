use Rattle.admission.proofs.Laws.{permit-laws}
use borrow.Author.Rules.{rules}
use Rattle.admission.proofs.permit.Goals as goal

pub returns-then-no_dump : goal.returns-then-no_dump
returns-then-no_dump c = search (rules, permit-laws)

pub returns-then-not_permitted : goal.returns-then-not_permitted
returns-then-not_permitted c = search (rules, permit-laws)

pub returns : goal.returns
returns c = search (rules, permit-laws)
