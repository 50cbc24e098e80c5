use Rattle.roll.proofs.name.Laws.{field_laws}
use borrow.Author.Rules.{rules}
use Rattle.roll.proofs.name.name_at.Goals as goal

pub returns-then-roll-lt16 : goal.returns-then-roll-lt16
returns-then-roll-lt16 c = search (rules, field_laws)

pub returns-then-roll-at : goal.returns-then-roll-at
returns-then-roll-at c = search (rules, field_laws)

pub returns : goal.returns
returns c = search (rules, field_laws)
