use Rattle.roll_rule.proofs.marks.Laws.{mark-laws}
use borrow.Author.Rules.{rules}
use Rattle.roll_rule.proofs.marks.take.Goals as goal

pub is_new_by-new-requires : goal.is_new_by-new-requires
is_new_by-new-requires c = record { k_in_bounds = search rules; i_value = (search rules, search rules, search rules, search rules); marked = search rules; marked_2 = search rules }

pub returns : goal.returns
returns c = record { value = search rules; marked_3 = search (rules, mark-laws); marked_4 = search (rules, mark-laws) }
