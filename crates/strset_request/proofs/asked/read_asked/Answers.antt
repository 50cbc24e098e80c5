use Rattle.basics.proofs.Results.{err-passed}
use Rattle.strset_request.specs.Asked.{asked_of}
use borrow.Author.Rules.{rules}
use Rattle.strset_request.proofs.asked.read_asked.Goals as goal

pub returns-in_err-parts : goal.returns-in_err-parts
unfolding asked_of
returns-in_err-parts c = let passed = err-passed c.from_residual.result _ c.from_residual.ensures in search (rules, passed)

pub returns : goal.returns
unfolding asked_of
returns c = search rules
