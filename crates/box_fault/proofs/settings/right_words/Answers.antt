use Rattle.box_fault.proofs.longest.Laws.{from_all, longest-laws}
use Rattle.box_fault.proofs.settings.Laws.{zeros-laws}
use borrow.Author.Rules.{rules}
use Rattle.box_fault.proofs.settings.right_words.Goals as goal

pub loop-n-init : goal.loop-n-init
loop-n-init c = search (rules, from_all, zeros-laws)

pub shape_of-words-then-settings_right : goal.shape_of-words-then-settings_right
shape_of-words-then-settings_right c = search (rules, longest-laws, zeros-laws)

pub returns-then-settings_right : goal.returns-then-settings_right
returns-then-settings_right c = search (rules, longest-laws, zeros-laws)

pub overflow_sub-n : goal.overflow_sub-n
overflow_sub-n c = search (rules, longest-laws, zeros-laws)

pub offset_bounds-words-n : goal.offset_bounds-words-n
offset_bounds-words-n c = search (rules, longest-laws, zeros-laws)

pub bounds-words-n : goal.bounds-words-n
bounds-words-n c = search (rules, longest-laws, zeros-laws)

pub loop-n-smaller : goal.loop-n-smaller
loop-n-smaller c = search (rules, longest-laws, zeros-laws)

pub loop-n-preserved : goal.loop-n-preserved
loop-n-preserved c = search (rules, longest-laws, zeros-laws)

pub shape_of-words : goal.shape_of-words
shape_of-words c = search (rules, longest-laws, zeros-laws)

pub returns : goal.returns
returns c = search (rules, longest-laws, zeros-laws)
