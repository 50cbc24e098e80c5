use Rattle.netlink_attributes.proofs.Laws.{part_in, part-past, part-back}
use borrow.Author.Rules.{rules}
use Rattle.netlink_attributes.proofs.payload.Goals as goal

-- src/attributes.rt:56:9
pub returns-then-end-start : goal.returns-then-end-start
returns-then-end-start c = search (rules, part_in, part-past, part-back)

-- src/attributes.rt:59:9
pub returns-then-s-end : goal.returns-then-s-end
returns-then-s-end c = search (rules, part_in, part-past, part-back)

-- src/attributes.rt:52:1
pub returns : goal.returns
returns c = search (rules, part_in, part-past, part-back)
