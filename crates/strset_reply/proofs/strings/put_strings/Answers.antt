use Rattle.strset_reply.proofs.strings.Laws.{strings-laws}
use borrow.Author.Rules.{rules}
use Rattle.strset_reply.proofs.strings.put_strings.Goals as goal

pub loop-i-init : goal.loop-i-init
loop-i-init c = search (rules, strings-laws)

pub slice_bounds-put_string-count : goal.slice_bounds-put_string-count
slice_bounds-put_string-count c = search (rules, strings-laws)

pub slice_bounds-put_string-start : goal.slice_bounds-put_string-start
slice_bounds-put_string-start c = search (rules, strings-laws)

pub put_string-at-requires : goal.put_string-at-requires
put_string-at-requires c = search (rules, strings-laws)

pub overflow_add-at : goal.overflow_add-at
overflow_add-at c = search (rules, strings-laws)

pub loop-i-preserved : goal.loop-i-preserved
loop-i-preserved c = search (rules, strings-laws)

pub returns : goal.returns
returns c = search (rules, strings-laws)
