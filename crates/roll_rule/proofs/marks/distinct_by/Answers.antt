use Rattle.roll_rule.proofs.Laws.{each-laws}
use Rattle.roll_rule.proofs.distinct.Laws.{distinct-is}
use borrow.Author.Rules.{rules}
use Rattle.roll_rule.proofs.marks.distinct_by.Goals as goal

pub loop-k-init : goal.loop-k-init
loop-k-init c = search (rules, each-laws, distinct-is)

pub take-requires : goal.take-requires
take-requires c = search (rules, each-laws, distinct-is)

pub shape_of-indexes-then-not-take : goal.shape_of-indexes-then-not-take
shape_of-indexes-then-not-take c = search (rules, each-laws, distinct-is)

pub shape_of-names-then-not-take : goal.shape_of-names-then-not-take
shape_of-names-then-not-take c = search (rules, each-laws, distinct-is)

pub returns-then-not-take : goal.returns-then-not-take
returns-then-not-take c = search (rules, each-laws, distinct-is)

pub overflow_step-k : goal.overflow_step-k
overflow_step-k c = search (rules, each-laws, distinct-is)

pub loop-k-smaller : goal.loop-k-smaller
loop-k-smaller c = search (rules, each-laws, distinct-is)

pub loop-k-preserved : goal.loop-k-preserved
loop-k-preserved c = search (rules, each-laws, distinct-is)

pub shape_of-indexes : goal.shape_of-indexes
shape_of-indexes c = search (rules, each-laws, distinct-is)

pub shape_of-names : goal.shape_of-names
shape_of-names c = search (rules, each-laws, distinct-is)

pub returns : goal.returns
returns c = search (rules, each-laws, distinct-is)
