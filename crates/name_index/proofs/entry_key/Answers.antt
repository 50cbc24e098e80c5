use native.Mathlib.Omega.{arith}
use Rattle.name_index.proofs.Keys.{key-empty, key-some, key-inside}
use Rattle.name_index.proofs.entry_key.Goals as goal

pub returns-then-n-eq0 : goal.returns-then-n-eq0
returns-then-n-eq0 c = (key-empty _ _ c.requires _ c.entry_length-n.ensures c.if-n-eq0.true, omega arith)

pub overflow_add-i : goal.overflow_add-i
overflow_add-i c = let h = key-inside _ _ c.requires _ c.entry_length-n.ensures c.if-n-eq0.false in omega arith

pub bounds-names-i : goal.bounds-names-i
bounds-names-i c = key-inside _ _ c.requires _ c.entry_length-n.ensures c.if-n-eq0.false

pub returns : goal.returns
returns c = (key-some _ _ c.requires _ c.entry_length-n.ensures c.if-n-eq0.false _ c.key_in.ensures.0, c.key_in.ensures.1)
