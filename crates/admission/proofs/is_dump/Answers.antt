use Rattle.admission.proofs.Laws.{dump-is}
use borrow.Author.Rules.{rules}
use Rattle.admission.proofs.is_dump.Goals as goal

pub returns : goal.returns
returns c = search (rules, dump-is)
