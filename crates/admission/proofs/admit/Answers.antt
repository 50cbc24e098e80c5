use Rattle.admission.proofs.Laws.{admit-laws}
use borrow.Author.Rules.{rules}
use Rattle.admission.proofs.admit.Goals as goal

pub returns-then-h-lt16 : goal.returns-then-h-lt16
returns-then-h-lt16 c = search (rules, admit-laws)

pub returns-then-h-eq0 : goal.returns-then-h-eq0
returns-then-h-eq0 c = search (rules, admit-laws)

pub returns-then-kind-family : goal.returns-then-kind-family
returns-then-kind-family c = search (rules, admit-laws)

pub returns-in_default : goal.returns-in_default
returns-in_default c = search (rules, admit-laws)

pub returns-in-Strset : goal.returns-in-Strset
returns-in-Strset c = search (rules, admit-laws)

pub returns-in-OfSet : goal.returns-in-OfSet
returns-in-OfSet c = search (rules, admit-laws)

pub returns-in_default-read_command : goal.returns-in_default-read_command
returns-in_default-read_command c = search (rules, admit-laws)
