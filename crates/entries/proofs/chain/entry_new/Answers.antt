use Rattle.entries.proofs.Chains.{new-empty, new-some}
use Rattle.entries.proofs.chain.entry_new.Goals as goal

pub returns-then-list-i-eq0 : goal.returns-then-list-i-eq0
returns-then-list-i-eq0 c = new-empty _ _ c.requires.i_in_bounds.0 c.if-list-i-eq0.true

pub returns : goal.returns
returns c = new-some _ _ c.requires.i_in_bounds.0 _ c.if-list-i-eq0.false c.chain_new.ensures
