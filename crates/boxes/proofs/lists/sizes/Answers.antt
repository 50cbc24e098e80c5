use Rattle.boxes.proofs.lists.Laws.{sizes-are}
use borrow.Author.Rules.{rules}
use Rattle.boxes.proofs.lists.sizes.Goals as goal

pub returns : goal.returns
returns c = search (rules, sizes-are)
