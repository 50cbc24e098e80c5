use Rattle.reply.proofs.message.Laws.{attributes-wrote}
use borrow.Author.Rules.{rules}
use Rattle.reply.proofs.message.put_attributes.Goals as goal

pub returns : goal.returns
returns c = search (rules, attributes-wrote)
