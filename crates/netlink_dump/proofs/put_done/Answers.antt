use Rattle.netlink_dump.proofs.Laws.{done-wrote}
use borrow.Author.Rules.{rules}
use Rattle.netlink_dump.proofs.put_done.Goals as goal

pub returns : goal.returns
returns c = search (rules, done-wrote)
