use Rattle.netlink_headers.proofs.lengths.Laws.{step-bytes}
use Rattle.netlink_headers.proofs.messages.Laws.{message-laws}
use borrow.Author.Rules.{rules}
use Rattle.netlink_headers.proofs.messages.read_message.Goals as goal

pub returns-then-s-at : goal.returns-then-s-at
returns-then-s-at c = search (rules, message-laws)

pub returns-then-at-s : goal.returns-then-at-s
returns-then-at-s c = search (rules, message-laws)

pub returns-in_default : goal.returns-in_default
returns-in_default c = search (rules, message-laws)

pub returns-then-stated-lt-SIZE : goal.returns-then-stated-lt-SIZE
returns-then-stated-lt-SIZE c = search (rules, message-laws)

pub returns-then-s-at-2 : goal.returns-then-s-at-2
returns-then-s-at-2 c = search (rules, message-laws)

pub returns : goal.returns
returns c = search (rules, message-laws, step-bytes)
