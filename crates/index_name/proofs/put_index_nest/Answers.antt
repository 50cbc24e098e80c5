use Rattle.netlink_headers.proofs.lengths.Laws.{bytes_of}
use Rattle.index_name.proofs.Laws.{index-name-close, index-nest-wrote}
use borrow.Author.Rules.{rules}
use Rattle.index_name.proofs.put_index_nest.Goals as goal

pub close_nest-requires : goal.close_nest-requires
close_nest-requires c = search (rules, index-name-close)

pub returns : goal.returns
returns c = search (rules, index-nest-wrote, bytes_of)
