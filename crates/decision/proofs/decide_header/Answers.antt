use Rattle.basics.proofs.Results.{err-passed}
use Rattle.decision.specs.Decision.{header_decision}
use borrow.Author.Rules.{rules}
use Rattle.decision.proofs.decide_header.Goals as goal

pub returns-in_err-asked : goal.returns-in_err-asked
unfolding header_decision
returns-in_err-asked c = let passed = err-passed c.from_residual.result _ c.from_residual.ensures in search (rules, passed)

pub returns-in-Unnamed : goal.returns-in-Unnamed
unfolding header_decision
returns-in-Unnamed c = search rules

pub returns-then-command : goal.returns-then-command
unfolding header_decision
returns-then-command c = search rules

pub returns-else-command : goal.returns-else-command
unfolding header_decision
returns-else-command c = search rules
