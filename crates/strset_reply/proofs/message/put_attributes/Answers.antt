use Rattle.strset_reply.proofs.message.Laws.{attributes-laws}
use borrow.Author.Rules.{rules}
use Rattle.strset_reply.proofs.message.put_attributes.Goals as goal

pub put_sets_nest-all-requires : goal.put_sets_nest-all-requires
put_sets_nest-all-requires c = search (rules, attributes-laws)

pub overflow_add-result : goal.overflow_add-result
overflow_add-result c = search (rules, attributes-laws)

pub returns : goal.returns
returns c = search (rules, attributes-laws)
