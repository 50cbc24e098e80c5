use Rattle.boxes.proofs.lists.Laws.{lists-laws}
use borrow.Author.Rules.{rules}
use Rattle.boxes.proofs.lists.lists_right.Goals as goal

pub returns-then-not-names_right : goal.returns-then-not-names_right
returns-then-not-names_right c = search (rules, lists-laws)

pub returns : goal.returns
returns c = search (rules, lists-laws)
