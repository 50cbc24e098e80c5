use Rattle.strset_request.proofs.set.Laws.{judge-id-laws}
use borrow.Author.Rules.{rules}
use Rattle.strset_request.proofs.set.judge_id.Goals as goal

pub returns-then-not-id : goal.returns-then-not-id
returns-then-not-id c = search (rules, judge-id-laws)

pub returns : goal.returns
returns c = search (rules, judge-id-laws)
