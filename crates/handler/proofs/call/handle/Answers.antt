use lib.ListN.{length-take}
use native.Mathlib.Omega.{arith}
use Rattle.handler.proofs.call.Laws.{call-laws, box-fit, box-table}
use borrow.Author.Rules.{rules}
use Rattle.handler.proofs.call.handle.Goals as goal

pub slice_bounds-ports-end : goal.slice_bounds-ports-end
slice_bounds-ports-end c = simp length-take (omega arith)

pub returns-then-not-box_right : goal.returns-then-not-box_right
returns-then-not-box_right c = search (rules, call-laws)

pub returns-then-page-lt-PAGE : goal.returns-then-page-lt-PAGE
returns-then-page-lt-PAGE c = search (rules, call-laws)

pub returns-then-datagram-gt-DATAGRAM : goal.returns-then-datagram-gt-DATAGRAM
returns-then-datagram-gt-DATAGRAM c = search (rules, call-laws)

pub new-roll-requires : goal.new-roll-requires
new-roll-requires c = let right = c.box_right.ensures in let passed = c.if-not-box_right.false-raw in box-table _ _ _ _ _ c.read_ports-n.ensures.1 right passed

pub answer_at-requires : goal.answer_at-requires
answer_at-requires c = let right = c.box_right.ensures in let passed = c.if-not-box_right.false-raw in record { in_bounds = search rules; fit = rw c.new-roll.ensures (box-fit _ _ _ _ right passed) }

pub returns : goal.returns
returns c = let performed = rw c.new-roll.ensures at c.answer_at.ensures in search (rules, call-laws, performed)
