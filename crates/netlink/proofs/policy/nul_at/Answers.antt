use native.Mathlib.Omega.{arith}
use Rattle.netlink.proofs.policy.Laws.{nul-laws, nul-more}
use borrow.Author.Rules.{rules}
use Rattle.netlink.proofs.policy.nul_at.Goals as goal

pub nul_free-eights-requires : goal.nul_free-eights-requires
nul_free-eights-requires c = search (rules, nul-laws)

pub nul_free-i-requires : goal.nul_free-i-requires
nul_free-i-requires c = search (rules, nul-laws)

pub loop-i-init : goal.loop-i-init
loop-i-init c = search (rules, nul-laws)

pub bounds-s-i : goal.bounds-s-i
bounds-s-i c = search (rules, nul-laws)

pub returns-then-s-i-eq0 : goal.returns-then-s-i-eq0
returns-then-s-i-eq0 c = search (rules, nul-laws)

pub overflow_add-i : goal.overflow_add-i
overflow_add-i c = search (rules, nul-laws)

pub loop-i-smaller : goal.loop-i-smaller
loop-i-smaller c = search (rules, nul-laws)

pub loop-i-preserved : goal.loop-i-preserved
loop-i-preserved c = (omega arith, search (rules, nul-more))

pub returns : goal.returns
returns c = search (rules, nul-laws)
