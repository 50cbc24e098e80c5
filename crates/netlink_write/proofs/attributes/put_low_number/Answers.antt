use Rattle.netlink_headers.proofs.lengths.Laws.{bytes_of}
use Rattle.netlink_write.proofs.attributes.Laws.{number-wrote}
use borrow.Author.Rules.{rules}
use Rattle.netlink_write.proofs.attributes.put_low_number.Goals as goal

pub returns : goal.returns
returns c = search (rules, number-wrote, bytes_of)
