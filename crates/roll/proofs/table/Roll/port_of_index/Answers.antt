use Rattle.roll.proofs.find.Laws.{index-laws}
use borrow.Author.Rules.{rules}
use Rattle.roll.proofs.table.Roll.port_of_index.Goals as goal

pub loop-k-init : goal.loop-k-init
loop-k-init c = search (rules, index-laws)

pub index_of-requires : goal.index_of-requires
index_of-requires c = search (rules, index-laws)

pub returns-then-index_of-wanted : goal.returns-then-index_of-wanted
returns-then-index_of-wanted c = search (rules, index-laws)

pub overflow_step-k : goal.overflow_step-k
overflow_step-k c = search (rules, index-laws)

pub loop-k-smaller : goal.loop-k-smaller
loop-k-smaller c = search (rules, index-laws)

pub loop-k-preserved : goal.loop-k-preserved
loop-k-preserved c = search (rules, index-laws)

pub returns : goal.returns
returns c = search (rules, index-laws)
