use Rattle.request.proofs.policies.Laws.{top-rules}
use borrow.Author.Rules.{rules}
use Rattle.request.proofs.policies.top_policy.Goals as goal

pub returns : goal.returns
returns c = search (rules, top-rules)
