use Rattle.boxes.proofs.rule.Laws.{box_laws, roll-few, sizes-few}
use borrow.Author.Rules.{rules}
use Rattle.boxes.proofs.rule.box_right.Goals as goal

pub returns-then-call-lt16 : goal.returns-then-call-lt16
returns-then-call-lt16 c = search (rules, box_laws)

pub returns-then-call-gt65535 : goal.returns-then-call-gt65535
returns-then-call-gt65535 c = search (rules, box_laws)

pub returns-then-call-gt1 : goal.returns-then-call-gt1
returns-then-call-gt1 c = search (rules, box_laws)

pub returns-then-not-roll_right : goal.returns-then-not-roll_right
returns-then-not-roll_right c = search (rules, box_laws)

pub returns-then-ports-call : goal.returns-then-ports-call
returns-then-ports-call c = search (rules, box_laws)

pub returns-then-not-lists_right : goal.returns-then-not-lists_right
returns-then-not-lists_right c = search (rules, box_laws)

pub settings_right-requires : goal.settings_right-requires
settings_right-requires c = search (rules, roll-few, sizes-few)

pub returns : goal.returns
returns c = search (rules, box_laws)
