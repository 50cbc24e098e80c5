use Rattle.request.proofs.top.Laws.{nests-laws}
use borrow.Author.Rules.{rules}
use Rattle.request.proofs.top.judge_nests.Goals as goal

pub returns-then-not-parts : goal.returns-then-not-parts
returns-then-not-parts c = search (rules, nests-laws)

pub returns-then-not-parts-2 : goal.returns-then-not-parts-2
returns-then-not-parts-2 c = search (rules, nests-laws)

pub returns-else-not-parts-2 : goal.returns-else-not-parts-2
returns-else-not-parts-2 c = search (rules, nests-laws)

pub returns-else-change : goal.returns-else-change
returns-else-change c = search (rules, nests-laws)
