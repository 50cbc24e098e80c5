use Rattle.entries.proofs.Entries.{entry-part, entry-none}
use Rattle.entries.proofs.entry.Goals as goal

pub returns-then-i-list : goal.returns-then-i-list
returns-then-i-list c = entry-part _ _ c.if-i-list.true

pub returns : goal.returns
returns c = entry-none _ _ c.if-i-list.false
