use Rattle.handler.proofs.call.Laws.{at-laws, message-long}
use borrow.Author.Rules.{rules}
use Rattle.handler.proofs.call.answer_at.Goals as goal

pub returns-in-Outside : goal.returns-in-Outside
returns-in-Outside c = search (rules, at-laws)

pub returns-in-AtEnd : goal.returns-in-AtEnd
returns-in-AtEnd c = search (rules, at-laws)

pub returns-in-Cut : goal.returns-in-Cut
returns-in-Cut c = search (rules, at-laws)

pub returns-in-Misstated : goal.returns-in-Misstated
returns-in-Misstated c = search (rules, at-laws)

pub answer_message-requires : goal.answer_message-requires
answer_message-requires c = record { in_bounds = (search rules, search (rules, message-long)); fit = search rules }

pub returns-in-Message : goal.returns-in-Message
returns-in-Message c = search (rules, at-laws)
