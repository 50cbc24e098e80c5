use Rattle.strset_reply.proofs.length.Laws.{reply-is}
use borrow.Author.Rules.{rules}
use Rattle.strset_reply.proofs.length.reply_length.Goals as goal

pub returns : goal.returns
returns c = search (rules, reply-is)
