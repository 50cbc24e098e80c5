use Rattle.netlink.proofs.policy.Laws.{rule-laws}
use borrow.Author.Rules.{rules}
use Rattle.netlink.proofs.policy.rule_of.Goals as goal

-- src/policy.rt:118:9
pub returns-then-k-ge8 : goal.returns-then-k-ge8
returns-then-k-ge8 c = search (rules, rule-laws)

-- src/policy.rt:113:1
pub returns : goal.returns
returns c = search (rules, rule-laws)
