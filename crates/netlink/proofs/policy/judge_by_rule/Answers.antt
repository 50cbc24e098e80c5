use Rattle.netlink.proofs.policy.Laws.{judge-laws}
use borrow.Author.Rules.{rules}
use Rattle.netlink.proofs.policy.judge_by_rule.Goals as goal

pub returns-in-Unlisted : goal.returns-in-Unlisted
returns-in-Unlisted c = search (rules, judge-laws)

pub returns-in-Nest : goal.returns-in-Nest
returns-in-Nest c = search (rules, judge-laws)

pub returns-in-Number : goal.returns-in-Number
returns-in-Number c = search (rules, judge-laws)

pub returns-in-Flag : goal.returns-in-Flag
returns-in-Flag c = search (rules, judge-laws)

pub returns-in-Name : goal.returns-in-Name
returns-in-Name c = search (rules, judge-laws)

pub returns-in-Bytes : goal.returns-in-Bytes
returns-in-Bytes c = search (rules, judge-laws)
