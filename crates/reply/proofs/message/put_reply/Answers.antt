use Rattle.reply.proofs.message.Laws.{reply-wrote}
use borrow.Author.Rules.{rules}
use Rattle.reply.proofs.message.put_reply.Goals as goal

pub returns : goal.returns
returns c = search (rules, reply-wrote)
