use Rattle.strset.proofs.Laws.{content-laws}
use borrow.Author.Rules.{rules}
use Rattle.strset.proofs.answer_content.Goals as goal

pub overflow_add-long : goal.overflow_add-long
overflow_add-long c = search (rules, content-laws)

pub returns-then-long-ack_length-gt-LONGEST : goal.returns-then-long-ack_length-gt-LONGEST
returns-then-long-ack_length-gt-LONGEST c = search (rules, content-laws)

pub put_strset-written-requires : goal.put_strset-written-requires
put_strset-written-requires c = search (rules, content-laws)

pub returns : goal.returns
returns c = search (rules, content-laws)
