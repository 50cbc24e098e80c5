use Rattle.roll.proofs.record.Laws.{record-laws}
use borrow.Author.Rules.{rules}
use Rattle.roll.proofs.record.read_record.Goals as goal

pub returns-then-roll-at : goal.returns-then-roll-at
returns-then-roll-at c = search (rules, record-laws)

pub returns-then-size-eq0 : goal.returns-then-size-eq0
returns-then-size-eq0 c = search (rules, record-laws)

pub returns-then-roll-at-2 : goal.returns-then-roll-at-2
returns-then-roll-at-2 c = search (rules, record-laws)

pub returns : goal.returns
returns c = search (rules, record-laws)
