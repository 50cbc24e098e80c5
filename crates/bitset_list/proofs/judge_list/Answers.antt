use Rattle.bitset_list.proofs.Laws.{list-fault, list-nomask, list-masked}
use borrow.Author.Rules.{rules}
use Rattle.bitset_list.proofs.judge_list.Goals as goal

pub returns-in-At : goal.returns-in-At
returns-in-At c = search (rules, list-fault)

pub returns-then-nomask : goal.returns-then-nomask
returns-then-nomask c = search (rules, list-nomask)

pub returns : goal.returns
returns c = search (rules, list-masked)
