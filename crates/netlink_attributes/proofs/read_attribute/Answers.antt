use Rattle.netlink_headers.proofs.lengths.Laws.{step-bytes}
use Rattle.netlink_attributes.proofs.Laws.{read-laws}
use borrow.Author.Rules.{rules}
use Rattle.netlink_attributes.proofs.read_attribute.Goals as goal

pub returns-then-s-at : goal.returns-then-s-at
returns-then-s-at c = search (rules, read-laws)

pub returns-in_default : goal.returns-in_default
returns-in_default c = search (rules, read-laws)

pub returns-then-stated-lt-SIZE : goal.returns-then-stated-lt-SIZE
returns-then-stated-lt-SIZE c = search (rules, read-laws)

pub returns-then-s-at-2 : goal.returns-then-s-at-2
returns-then-s-at-2 c = search (rules, read-laws)

pub returns : goal.returns
returns c = search (rules, read-laws, step-bytes)
