use Rattle.roll_rule.proofs.Laws.{each-laws}
use borrow.Author.Rules.{rules}
use Rattle.roll_rule.proofs.ports_right.Goals as goal

pub loop-k-init : goal.loop-k-init
loop-k-init c = search (rules, each-laws)

pub port_right-requires : goal.port_right-requires
port_right-requires c = search (rules, each-laws)

pub returns-then-not-port_right : goal.returns-then-not-port_right
returns-then-not-port_right c = search (rules, each-laws)

pub overflow_step-k : goal.overflow_step-k
overflow_step-k c = search (rules, each-laws)

pub loop-k-smaller : goal.loop-k-smaller
loop-k-smaller c = search (rules, each-laws)

pub loop-k-preserved : goal.loop-k-preserved
loop-k-preserved c = search (rules, each-laws)

pub returns : goal.returns
returns c = search (rules, each-laws)
