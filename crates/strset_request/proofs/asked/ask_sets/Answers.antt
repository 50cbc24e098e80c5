use Rattle.basics.proofs.Results.{err-passed}
use Rattle.strset_request.specs.Asked.{sets_asked}
use borrow.Author.Rules.{rules}
use Rattle.strset_request.proofs.asked.ask_sets.Goals as goal

pub returns-in_err-sets : goal.returns-in_err-sets
unfolding sets_asked
returns-in_err-sets c = let passed = err-passed c.from_residual.result _ c.from_residual.ensures in search (rules, passed)

pub returns : goal.returns
unfolding sets_asked
returns c = search rules
