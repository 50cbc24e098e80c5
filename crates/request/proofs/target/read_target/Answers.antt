use Rattle.basics.proofs.Results.{err-passed}
use Rattle.request.specs.Target.{target_of, with_flags}
use borrow.Author.Rules.{rules}
use Rattle.request.proofs.target.read_target.Goals as goal

pub returns-in_err-parts : goal.returns-in_err-parts
unfolding target_of
returns-in_err-parts c = let passed = err-passed c.from_residual.result _ c.from_residual.ensures in search (rules, passed)

pub returns-then-dump : goal.returns-then-dump
unfolding target_of
returns-then-dump c = search rules

pub returns-in_err-position : goal.returns-in_err-position
unfolding target_of with_flags
returns-in_err-position c = let passed = err-passed c.from_residual-in_err-position.result _ c.from_residual-in_err-position.ensures in search (rules, passed)

pub returns : goal.returns
unfolding target_of with_flags
returns c = search rules
