use Rattle.netlink.proofs.policy.Laws.{nested-laws}
use borrow.Author.Rules.{rules}
use Rattle.netlink.proofs.policy.nested.Goals as goal

-- src/policy.rt:88:1
pub returns-then-bits-eq2 : goal.returns-then-bits-eq2
returns-then-bits-eq2 c = search (rules, nested-laws)

-- src/policy.rt:88:1
pub returns-else-bits-eq2 : goal.returns-else-bits-eq2
returns-else-bits-eq2 c = search (rules, nested-laws)
