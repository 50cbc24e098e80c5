use Rattle.netlink_headers.proofs.lengths.Laws.{bytes_of}
use Rattle.strset_reply.proofs.sets.Laws.{set-laws}
use borrow.Author.Rules.{rules}
use Rattle.strset_reply.proofs.sets.put_string_set.Goals as goal

pub slice_bounds-put_set_contents-count : goal.slice_bounds-put_set_contents-count
slice_bounds-put_set_contents-count c = search (rules, set-laws)

pub slice_bounds-put_set_contents-start : goal.slice_bounds-put_set_contents-start
slice_bounds-put_set_contents-start c = search (rules, set-laws)

pub put_set_contents-contents-requires : goal.put_set_contents-contents-requires
put_set_contents-contents-requires c = search (rules, set-laws)

pub close_nest-requires : goal.close_nest-requires
close_nest-requires c = search (rules, set-laws)

pub returns : goal.returns
returns c = search (rules, set-laws, bytes_of)
