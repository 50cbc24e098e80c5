use Rattle.strset_request.proofs.list.Laws.{nest-laws}
use borrow.Author.Rules.{rules}
use Rattle.strset_request.proofs.list.judge_nest.Goals as goal

pub returns-in-At : goal.returns-in-At
returns-in-At c = search (rules, nest-laws)

pub returns : goal.returns
returns c = search (rules, nest-laws)
