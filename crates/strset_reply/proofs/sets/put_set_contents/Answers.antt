use Rattle.strset_reply.proofs.sets.Laws.{contents-laws}
use borrow.Author.Rules.{rules}
use Rattle.strset_reply.proofs.sets.put_set_contents.Goals as goal

pub put_number-requires : goal.put_number-requires
put_number-requires c = search (rules, contents-laws)

pub slice_bounds-put_number-count : goal.slice_bounds-put_number-count
slice_bounds-put_number-count c = search (rules, contents-laws)

pub slice_bounds-put_number-start : goal.slice_bounds-put_number-start
slice_bounds-put_number-start c = search (rules, contents-laws)

pub put_number-requires-2 : goal.put_number-requires-2
put_number-requires-2 c = search (rules, contents-laws)

pub slice_bounds-put_strings_if-count : goal.slice_bounds-put_strings_if-count
slice_bounds-put_strings_if-count c = search (rules, contents-laws)

pub slice_bounds-put_strings_if-start : goal.slice_bounds-put_strings_if-start
slice_bounds-put_strings_if-start c = search (rules, contents-laws)

pub put_strings_if-strings-requires : goal.put_strings_if-strings-requires
put_strings_if-strings-requires c = search (rules, contents-laws)

pub overflow_add-result : goal.overflow_add-result
overflow_add-result c = search (rules, contents-laws)

pub returns : goal.returns
returns c = search (rules, contents-laws)
