use Rattle.netlink.proofs.walk.Laws.{slot_laws}
use borrow.Author.Rules.{rules}
use Rattle.netlink.proofs.walk.slot_number.Goals as goal

-- src/walk.rt:102:9
pub returns-then-slot : goal.returns-then-slot
returns-then-slot c = search (rules, slot_laws)

-- src/walk.rt:96:1
pub returns : goal.returns
returns c = search (rules, slot_laws)
