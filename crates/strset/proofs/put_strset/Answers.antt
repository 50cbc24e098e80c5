use Rattle.strset.proofs.Laws.{put-laws}
use borrow.Author.Rules.{rules}
use Rattle.strset.proofs.put_strset.Goals as goal

pub put_strset_reply-reply-requires : goal.put_strset_reply-reply-requires
put_strset_reply-reply-requires c = search (rules, put-laws)

pub returns-then-ack_length-eq0 : goal.returns-then-ack_length-eq0
returns-then-ack_length-eq0 c = search (rules, put-laws)

pub slice_bounds-put_ack_if_asked-count : goal.slice_bounds-put_ack_if_asked-count
slice_bounds-put_ack_if_asked-count c = search (rules, put-laws)

pub slice_bounds-put_ack_if_asked-start : goal.slice_bounds-put_ack_if_asked-start
slice_bounds-put_ack_if_asked-start c = search (rules, put-laws)

pub put_ack_if_asked-ack-requires : goal.put_ack_if_asked-ack-requires
put_ack_if_asked-ack-requires c = search (rules, put-laws)

pub overflow_add-result : goal.overflow_add-result
overflow_add-result c = search (rules, put-laws)

pub returns : goal.returns
returns c = search (rules, put-laws)
