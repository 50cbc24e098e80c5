use Rattle.admission.proofs.commands.Laws.{rows-laws}
use borrow.Author.Rules.{rules}
use Rattle.admission.proofs.commands.read_command.Goals as goal

pub commands-rows-requires : goal.commands-rows-requires
commands-rows-requires c = search (rules, rows-laws)

pub loop-i-init : goal.loop-i-init
loop-i-init c = search (rules, rows-laws)

pub offset_bounds-rows-i : goal.offset_bounds-rows-i
offset_bounds-rows-i c = search (rules, rows-laws)

pub bounds-rows-i : goal.bounds-rows-i
bounds-rows-i c = search (rules, rows-laws)

pub returns-then-row-number : goal.returns-then-row-number
returns-then-row-number c = search (rules, rows-laws)

pub overflow_step-i : goal.overflow_step-i
overflow_step-i c = search (rules, rows-laws)

pub loop-i-smaller : goal.loop-i-smaller
loop-i-smaller c = search (rules, rows-laws)

pub loop-i-preserved : goal.loop-i-preserved
loop-i-preserved c = search (rules, rows-laws)

pub returns : goal.returns
returns c = search (rules, rows-laws)
