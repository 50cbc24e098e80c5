use Rattle.strset_reply.proofs.sets.Laws.{sets-laws}
use borrow.Author.Rules.{rules}
use Rattle.strset_reply.proofs.sets.put_sets.Goals as goal

pub returns-in-Nothing : goal.returns-in-Nothing
returns-in-Nothing c = search (rules, sets-laws)

pub put_string_set-requires : goal.put_string_set-requires
put_string_set-requires c = search (rules, sets-laws)

pub returns-in-One : goal.returns-in-One
returns-in-One c = search (rules, sets-laws)

pub put_string_set-one-requires : goal.put_string_set-one-requires
put_string_set-one-requires c = search (rules, sets-laws)

pub slice_bounds-put_string_set-count : goal.slice_bounds-put_string_set-count
slice_bounds-put_string_set-count c = search (rules, sets-laws)

pub slice_bounds-put_string_set-start : goal.slice_bounds-put_string_set-start
slice_bounds-put_string_set-start c = search (rules, sets-laws)

pub put_string_set-two-requires : goal.put_string_set-two-requires
put_string_set-two-requires c = search (rules, sets-laws)

pub overflow_add-result : goal.overflow_add-result
overflow_add-result c = search (rules, sets-laws)

pub returns-in-Both : goal.returns-in-Both
returns-in-Both c = search (rules, sets-laws)
