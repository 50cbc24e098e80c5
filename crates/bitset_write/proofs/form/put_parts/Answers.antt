use Rattle.bitset_write.proofs.form.Laws.{parts-wrote}
use borrow.Author.Rules.{rules}
use Rattle.bitset_write.proofs.form.put_parts.Goals as goal

pub returns : goal.returns
returns c = search (rules, parts-wrote)
