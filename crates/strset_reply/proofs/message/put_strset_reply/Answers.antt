use Rattle.strset_reply.proofs.message.Laws.{reply-laws}
use borrow.Author.Rules.{rules}
use Rattle.strset_reply.proofs.message.put_strset_reply.Goals as goal

pub put_attributes-attributes-requires : goal.put_attributes-attributes-requires
put_attributes-attributes-requires c = search (rules, reply-laws)

pub close_message-requires : goal.close_message-requires
close_message-requires c = search (rules, reply-laws)

pub returns : goal.returns
returns c = search (rules, reply-laws)
