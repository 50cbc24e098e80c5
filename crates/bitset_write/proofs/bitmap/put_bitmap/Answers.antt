use Rattle.netlink_headers.proofs.lengths.Laws.{bytes_of}
use Rattle.bitset_write.proofs.bitmap.Laws.{bitmap-wrote}
use borrow.Author.Rules.{rules}
use Rattle.bitset_write.proofs.bitmap.put_bitmap.Goals as goal

pub returns : goal.returns
returns c = search (rules, bitmap-wrote, bytes_of)
