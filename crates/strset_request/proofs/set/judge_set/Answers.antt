use Rattle.strset_request.proofs.set.Laws.{set-laws}
use borrow.Author.Rules.{rules}
use Rattle.strset_request.proofs.set.judge_set.Goals as goal

pub returns-in-At : goal.returns-in-At
returns-in-At c = search (rules, set-laws)

pub returns : goal.returns
returns c = search (rules, set-laws)
