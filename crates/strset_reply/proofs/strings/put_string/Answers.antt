use Rattle.netlink_headers.proofs.lengths.Laws.{bytes_of}
use Rattle.strset_reply.proofs.strings.Laws.{string-laws}
use borrow.Author.Rules.{rules}
use Rattle.strset_reply.proofs.strings.put_string.Goals as goal

pub slice_bounds-put_index_and_value-count : goal.slice_bounds-put_index_and_value-count
slice_bounds-put_index_and_value-count c = search (rules, string-laws)

pub slice_bounds-put_index_and_value-start : goal.slice_bounds-put_index_and_value-start
slice_bounds-put_index_and_value-start c = search (rules, string-laws)

pub put_index_and_value-contents-requires : goal.put_index_and_value-contents-requires
put_index_and_value-contents-requires c = search (rules, string-laws)

pub close_nest-requires : goal.close_nest-requires
close_nest-requires c = search (rules, string-laws)

pub returns : goal.returns
returns c = search (rules, string-laws, bytes_of)
