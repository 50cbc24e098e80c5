use Rattle.roll_rule.proofs.Laws.{each-laws}
use Rattle.roll_rule.proofs.distinct.Laws.{distinct-is}
use borrow.Author.Rules.{rules}
use Rattle.roll_rule.proofs.distinct.few_distinct.Goals as goal

pub loop-k-init : goal.loop-k-init
loop-k-init c = search (rules, each-laws, distinct-is)

pub is_new-requires : goal.is_new-requires
is_new-requires c = search (rules, each-laws, distinct-is)

pub returns-then-not-is_new : goal.returns-then-not-is_new
returns-then-not-is_new c = search (rules, each-laws, distinct-is)

pub overflow_step-k : goal.overflow_step-k
overflow_step-k c = search (rules, each-laws, distinct-is)

pub loop-k-smaller : goal.loop-k-smaller
loop-k-smaller c = search (rules, each-laws, distinct-is)

pub loop-k-preserved : goal.loop-k-preserved
loop-k-preserved c = search (rules, each-laws, distinct-is)

pub returns : goal.returns
returns c = search (rules, each-laws, distinct-is)
