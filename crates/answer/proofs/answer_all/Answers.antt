use borrow.Author.Rules.{rules}
use Rattle.answer.proofs.Laws.{run-laws}
use Rattle.answer.proofs.answer_all.Goals as goal

pub nothing-written-requires : goal.nothing-written-requires
nothing-written-requires c = search (rules, run-laws)

pub loop-a-init : goal.loop-a-init
loop-a-init c = search (rules, run-laws)

pub answer_one-a-requires : goal.answer_one-a-requires
answer_one-a-requires c = search (rules, run-laws)

pub goes_on-requires : goal.goes_on-requires
goes_on-requires c = search (rules, run-laws)

pub shape_of-settings-then-not-goes_on : goal.shape_of-settings-then-not-goes_on
shape_of-settings-then-not-goes_on c = search (rules, run-laws)

pub shape_of-page-then-not-goes_on : goal.shape_of-page-then-not-goes_on
shape_of-page-then-not-goes_on c = search (rules, run-laws)

pub returns-then-not-goes_on : goal.returns-then-not-goes_on
returns-then-not-goes_on c = search (rules, run-laws)

pub slice_bounds-send-end : goal.slice_bounds-send-end
slice_bounds-send-end c = search (rules, run-laws)

pub slice_bounds-send-end-in-loop-a : goal.slice_bounds-send-end-in-loop-a
slice_bounds-send-end-in-loop-a c = search (rules, run-laws)

pub send-written-requires : goal.send-written-requires
send-written-requires c = search (rules, run-laws)

pub loop-a-smaller : goal.loop-a-smaller
loop-a-smaller c = search (rules, run-laws)

pub loop-a-preserved : goal.loop-a-preserved
loop-a-preserved c = search (rules, run-laws)
