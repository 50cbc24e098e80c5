use Rattle.handler.proofs.call.Laws.{message-laws}
use borrow.Author.Rules.{rules}
use Rattle.handler.proofs.call.answer_message.Goals as goal

pub returns-in-Ok-Skipped : goal.returns-in-Ok-Skipped
returns-in-Ok-Skipped c = search (rules, message-laws)

pub returns-in-Err : goal.returns-in-Err
returns-in-Err c = search (rules, message-laws)

pub returns-in-Ok-Strset : goal.returns-in-Ok-Strset
returns-in-Ok-Strset c = search (rules, message-laws)

pub returns-in-Ok-Admitted : goal.returns-in-Ok-Admitted
returns-in-Ok-Admitted c = search (rules, message-laws)
