use Rattle.roll.proofs.find.Laws.{has-name-laws}
use borrow.Author.Rules.{rules}
use Rattle.roll.proofs.table.Roll.has_name.Goals as goal

pub returns-then-probe_of-probe : goal.returns-then-probe_of-probe
returns-then-probe_of-probe c = search (rules, has-name-laws)

pub returns : goal.returns
returns c = search (rules, has-name-laws)
