use Rattle.netlink_error.proofs.Laws.{ack-wrote}
use borrow.Author.Rules.{rules}
use Rattle.netlink_error.proofs.put_ack.Goals as goal

pub returns : goal.returns
returns c = search (rules, ack-wrote)
