use Rattle.netlink_headers.proofs.lengths.Laws.{bytes_of}
use Rattle.bitset_reply.proofs.list.Laws.{bits-nest-wrote}
use Rattle.bitset_reply.proofs.list.Lengths.{bits-close}
use borrow.Author.Rules.{rules}
use Rattle.bitset_reply.proofs.list.put_bits_nest.Goals as goal

pub close_nest-requires : goal.close_nest-requires
close_nest-requires c = search (rules, bits-close)

pub returns : goal.returns
returns c = search (rules, bits-nest-wrote, bytes_of)
