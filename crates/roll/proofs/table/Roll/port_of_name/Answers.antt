use Rattle.roll.proofs.find.Laws.{name-laws}
use borrow.Author.Rules.{rules}
use Rattle.roll.proofs.table.Roll.port_of_name.Goals as goal

pub u32_at-probe-requires : goal.u32_at-probe-requires
u32_at-probe-requires c = search (rules, name-laws)

pub loop-k-init : goal.loop-k-init
loop-k-init c = search (rules, name-laws)

pub has_name-requires : goal.has_name-requires
has_name-requires c = search (rules, name-laws)

pub returns-then-has_name : goal.returns-then-has_name
returns-then-has_name c = search (rules, name-laws)

pub overflow_step-k : goal.overflow_step-k
overflow_step-k c = search (rules, name-laws)

pub loop-k-smaller : goal.loop-k-smaller
loop-k-smaller c = search (rules, name-laws)

pub loop-k-preserved : goal.loop-k-preserved
loop-k-preserved c = search (rules, name-laws)

pub returns : goal.returns
returns c = search (rules, name-laws)
