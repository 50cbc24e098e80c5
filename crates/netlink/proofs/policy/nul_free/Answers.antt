use native.Mathlib.Omega.{arith}
use Rattle.netlink.proofs.policy.Laws.{nul-start, nul-none}
use borrow.Author.Rules.{rules}
use Rattle.netlink.proofs.policy.nul_free.Goals as goal

pub loop-i-init : goal.loop-i-init
loop-i-init c = search (rules, nul-start)

pub overflow_sub-s : goal.overflow_sub-s
overflow_sub-s c = search (rules, nul-start)

pub some_nul-requires : goal.some_nul-requires
some_nul-requires c = search (rules, nul-start)

pub returns-then-some_nul : goal.returns-then-some_nul
returns-then-some_nul c = search (rules, nul-start)

pub overflow_add-i : goal.overflow_add-i
overflow_add-i c = search (rules, nul-start)

pub loop-i-smaller : goal.loop-i-smaller
loop-i-smaller c = search (rules, nul-start)

pub loop-i-preserved : goal.loop-i-preserved
loop-i-preserved c = (omega arith, nul-none _ _ _ _ (search rules) (omega arith) c.some_nul.ensures c.if-some_nul.false)

pub returns : goal.returns
returns c = search (rules, nul-start)
