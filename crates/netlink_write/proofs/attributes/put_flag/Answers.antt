use Rattle.netlink_headers.proofs.lengths.Laws.{bytes_of}
use Rattle.netlink_write.proofs.attributes.Laws.{flag-wrote}
use borrow.Author.Rules.{rules}
use Rattle.netlink_write.proofs.attributes.put_flag.Goals as goal

pub returns : goal.returns
returns c = search (rules, flag-wrote, bytes_of)
