use Rattle.netlink_headers.proofs.lengths.Laws.{bytes_of}
use Rattle.strset_reply.proofs.strings.Laws.{strings-nest-laws}
use borrow.Author.Rules.{rules}
use Rattle.strset_reply.proofs.strings.put_strings_nest.Goals as goal

pub close_nest-requires : goal.close_nest-requires
close_nest-requires c = search (rules, strings-nest-laws)

pub returns : goal.returns
returns c = search (rules, strings-nest-laws, bytes_of)
