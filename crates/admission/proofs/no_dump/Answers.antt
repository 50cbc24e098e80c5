use Rattle.admission.proofs.Laws.{no-dump-laws}
use borrow.Author.Rules.{rules}
use Rattle.admission.proofs.no_dump.Goals as goal

pub returns-then-is_dump : goal.returns-then-is_dump
returns-then-is_dump c = search (rules, no-dump-laws)

pub returns : goal.returns
returns c = search (rules, no-dump-laws)
