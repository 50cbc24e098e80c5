use native.Mathlib.Omega.{arith}
use borrow.Author.Rules.{rules}
use Rattle.netlink.proofs.policy.Laws.{some-start, some_more, some-done}
use Rattle.netlink.proofs.policy.some_nul.Goals as goal

pub loop-j-init : goal.loop-j-init
loop-j-init c = search (rules, some-start, some-done)

pub overflow_add-some : goal.overflow_add-some
overflow_add-some c = search (rules, some-start, some-done)

pub bounds-s-at : goal.bounds-s-at
bounds-s-at c = search (rules, some-start, some-done)

pub overflow_step-j : goal.overflow_step-j
overflow_step-j c = search (rules, some-start, some-done)

pub loop-j-smaller : goal.loop-j-smaller
loop-j-smaller c = search (rules, some-start, some-done)

pub loop-j-preserved : goal.loop-j-preserved
loop-j-preserved c = (omega arith, search (rules, some_more))

pub returns : goal.returns
returns c = search (rules, some-start, some-done)
