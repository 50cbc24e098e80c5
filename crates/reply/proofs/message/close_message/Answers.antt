use Rattle.reply.proofs.message.Laws.{headers-put}
use borrow.Author.Rules.{rules}
use Rattle.reply.proofs.message.close_message.Goals as goal

pub returns : goal.returns
returns c = search (rules, headers-put)
