use Rattle.netlink_headers.proofs.lengths.Laws.{bytes_of}
use Rattle.strset_reply.proofs.sets.Laws.{sets-nest-laws}
use borrow.Author.Rules.{rules}
use Rattle.strset_reply.proofs.sets.put_sets_nest.Goals as goal

pub close_nest-requires : goal.close_nest-requires
close_nest-requires c = search (rules, sets-nest-laws)

pub returns : goal.returns
returns c = search (rules, sets-nest-laws, bytes_of)
