use Rattle.roll_rule.proofs.marks.Laws.{mark-name}
use Rattle.roll.proofs.table.Laws.{field-long}
use borrow.Author.Rules.{rules}
use Rattle.roll_rule.proofs.marks.mark_of_name.Goals as goal

pub name_mark-requires : goal.name_mark-requires
name_mark-requires c = search (rules, field-long)

pub returns : goal.returns
returns c = search (rules, mark-name)
