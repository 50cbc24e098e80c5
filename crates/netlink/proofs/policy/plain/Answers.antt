use Rattle.netlink.proofs.policy.Laws.{plain-laws}
use borrow.Author.Rules.{rules}
use Rattle.netlink.proofs.policy.plain.Goals as goal

-- src/policy.rt:73:1
pub returns-then-fits : goal.returns-then-fits
returns-then-fits c = search (rules, plain-laws)

-- src/policy.rt:73:1
pub returns-else-fits : goal.returns-else-fits
returns-else-fits c = search (rules, plain-laws)

-- src/policy.rt:73:1
pub returns-else-bits-eq0 : goal.returns-else-bits-eq0
returns-else-bits-eq0 c = search (rules, plain-laws)
