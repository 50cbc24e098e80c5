use Rattle.strset_reply.proofs.strings.Laws.{value-laws}
use borrow.Author.Rules.{rules}
use Rattle.strset_reply.proofs.strings.put_index_and_value.Goals as goal

pub put_number-requires : goal.put_number-requires
put_number-requires c = search (rules, value-laws)

pub slice_bounds-put_exact_name-count : goal.slice_bounds-put_exact_name-count
slice_bounds-put_exact_name-count c = search (rules, value-laws)

pub slice_bounds-put_exact_name-start : goal.slice_bounds-put_exact_name-start
slice_bounds-put_exact_name-start c = search (rules, value-laws)

pub put_exact_name-value-requires : goal.put_exact_name-value-requires
put_exact_name-value-requires c = search (rules, value-laws)

pub overflow_add-result : goal.overflow_add-result
overflow_add-result c = search (rules, value-laws)

pub returns : goal.returns
returns c = search (rules, value-laws)
