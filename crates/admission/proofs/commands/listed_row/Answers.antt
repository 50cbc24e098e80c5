use Rattle.admission.proofs.commands.Laws.{row_is}
use borrow.Author.Rules.{rules}
use Rattle.admission.proofs.commands.listed_row.Goals as goal

pub returns : goal.returns
returns c = search (rules, row_is)
