use Rattle.netlink.proofs.policy.Laws.{name-laws}
use borrow.Author.Rules.{rules}
use Rattle.netlink.proofs.policy.is_name_payload.Goals as goal

pub returns-then-s-n : goal.returns-then-s-n
returns-then-s-n c = search (rules, name-laws)

pub returns-then-n-s : goal.returns-then-n-s
returns-then-n-s c = search (rules, name-laws)

pub returns : goal.returns
returns c = search (rules, name-laws)
