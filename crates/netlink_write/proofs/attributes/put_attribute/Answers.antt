use Rattle.netlink_headers.proofs.lengths.Laws.{step-bytes}
use Rattle.netlink_write.proofs.attributes.Laws.{payload-wrote}
use borrow.Author.Rules.{rules}
use Rattle.netlink_write.proofs.attributes.put_attribute.Goals as goal

pub returns : goal.returns
returns c = search (rules, payload-wrote, step-bytes)
