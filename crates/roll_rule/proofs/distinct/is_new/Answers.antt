use Rattle.roll_rule.proofs.Laws.{each_start, each_next}
use Rattle.roll_rule.proofs.distinct.Laws.{new-laws}
use borrow.Author.Rules.{rules}
use Rattle.roll_rule.proofs.distinct.is_new.Goals as goal

pub index_of-number-requires : goal.index_of-number-requires
index_of-number-requires c = search (rules, each_start, each_next, new-laws)

pub name_of-field-requires : goal.name_of-field-requires
name_of-field-requires c = search (rules, each_start, each_next, new-laws)

pub loop-j-init : goal.loop-j-init
loop-j-init c = search (rules, each_start, each_next, new-laws)

pub is_another-requires : goal.is_another-requires
is_another-requires c = search (rules, each_start, each_next, new-laws)

pub returns-then-not-is_another : goal.returns-then-not-is_another
returns-then-not-is_another c = search (rules, each_start, each_next, new-laws)

pub overflow_step-j : goal.overflow_step-j
overflow_step-j c = search (rules, each_start, each_next, new-laws)

pub loop-j-smaller : goal.loop-j-smaller
loop-j-smaller c = search (rules, each_start, each_next, new-laws)

pub loop-j-preserved : goal.loop-j-preserved
loop-j-preserved c = search (rules, each_start, each_next, new-laws)

pub returns : goal.returns
returns c = search (rules, each_start, each_next, new-laws)
