use native.Mathlib.Omega.{arith}
use borrow.Author.Rules.{rules}
use Rattle.names.proofs.Passing.{pass-start, pass-more}
use Rattle.names.proofs.pass.pass_fours.Goals as goal

pub loop-r-init : goal.loop-r-init
loop-r-init c = pass-start _ _ _ _ c.requires.1

pub overflow_add-r : goal.overflow_add-r
overflow_add-r c = let l = c.loop-r.invariant.inside in omega arith

pub returns-then-not-others : goal.returns-then-not-others
returns-then-not-others c = c.loop-r.invariant

pub loop-r-preserved : goal.loop-r-preserved
loop-r-preserved c = pass-more _ _ _ _ _ c.loop-r.invariant 4 _ (search rules) c.others.ensures c.if-not-others.false-raw

pub returns : goal.returns
returns c = c.loop-r.invariant
