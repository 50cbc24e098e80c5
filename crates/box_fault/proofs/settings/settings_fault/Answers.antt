use lib.ListN.{length-take}
use native.Mathlib.Omega.{arith}
use Rattle.box_fault.proofs.settings.Laws.{length-laws}
use borrow.Author.Rules.{rules}
use Rattle.box_fault.proofs.settings.settings_fault.Goals as goal

pub returns-then-settings-right : goal.returns-then-settings-right
returns-then-settings-right c = search (rules, length-laws)

pub returns-then-right-settings : goal.returns-then-right-settings
returns-then-right-settings c = search (rules, length-laws)

pub slice_bounds-words-end : goal.slice_bounds-words-end
slice_bounds-words-end c = simp length-take (omega arith)

pub words_fault-requires : goal.words_fault-requires
words_fault-requires c = record { ports_bound = search rules; settings_len = (omega arith, simp length-take (omega arith)) }
