use Rattle.netlink_write.proofs.padded_name.Laws.{nul-none-left, nul-first, nul-later}
use Rattle.netlink_write.proofs.padded_name.nul_of.Goals as goal

pub returns-then-a-eq0 : goal.returns-then-a-eq0
returns-then-a-eq0 c = nul-first _ _ c.if-a-eq0.true

pub returns-then-b-eq0 : goal.returns-then-b-eq0
returns-then-b-eq0 c = nul-later _ _ _ c.if-a-eq0.false (nul-first _ _ c.if-b-eq0.true)

pub returns-then-c-eq0 : goal.returns-then-c-eq0
returns-then-c-eq0 c = nul-later _ _ _ c.if-a-eq0.false (nul-later _ _ _ c.if-b-eq0.false (nul-first _ _ c.if-c-eq0.true))

pub returns : goal.returns
returns c = nul-later _ _ _ c.if-a-eq0.false (nul-later _ _ _ c.if-b-eq0.false (nul-later _ _ _ c.if-c-eq0.false nul-none-left))
