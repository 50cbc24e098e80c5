use Rattle.index_name.proofs.Laws.{index-alone, index-then-name}
use borrow.Author.Rules.{rules}
use Rattle.index_name.proofs.put_index_and_name.Goals as goal

pub returns-then-is_unnamed : goal.returns-then-is_unnamed
returns-then-is_unnamed c = search (rules, index-alone)

pub returns : goal.returns
returns c = search (rules, index-then-name)
