use Rattle.netlink_headers.proofs.lengths.Laws.{bytes_of}
use Rattle.bitset_reply.proofs.set.Laws.{set-wrote}
use Rattle.bitset_reply.proofs.set.Lengths.{contents-close}
use borrow.Author.Rules.{rules}
use Rattle.bitset_reply.proofs.set.put_set.Goals as goal

pub close_nest-requires : goal.close_nest-requires
close_nest-requires c = search (rules, contents-close)

pub returns : goal.returns
returns c = search (rules, set-wrote, bytes_of)
