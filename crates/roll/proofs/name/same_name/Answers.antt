use Rattle.roll.proofs.name.Laws.{four-differ, fours-decide}
use borrow.Author.Rules.{rules}
use Rattle.roll.proofs.name.same_name.Goals as goal

pub returns-then-not-same_at : goal.returns-then-not-same_at
returns-then-not-same_at c = search (rules, four-differ)

pub returns-then-not-same_at-2 : goal.returns-then-not-same_at-2
returns-then-not-same_at-2 c = search (rules, four-differ)

pub returns-then-not-same_at-3 : goal.returns-then-not-same_at-3
returns-then-not-same_at-3 c = search (rules, four-differ)

pub returns : goal.returns
returns c =
    let k = c in
    search (rules, fours-decide k.args.a.now k.args.b.now (λ j. (k.type_inv.a j).fits) (λ j. (k.type_inv.b j).fits))
