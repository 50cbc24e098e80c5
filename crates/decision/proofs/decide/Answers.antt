use Rattle.basics.proofs.Results.{err-passed}
use Rattle.decision.specs.Decision.{decided}
use borrow.Author.Rules.{rules}
use Rattle.decision.proofs.decide.Goals as goal

pub returns-in_err-parts : goal.returns-in_err-parts
unfolding decided
returns-in_err-parts c = let passed = err-passed c.from_residual.result _ c.from_residual.ensures in search (rules, passed)

pub returns : goal.returns
unfolding decided
returns c = search rules
