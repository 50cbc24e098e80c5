use native.Mathlib.Omega.{arith}
use Rattle.roll.proofs.table.Laws.{in-table, in-64, index-is}
use Rattle.roll.proofs.table.Roll.index_of.Goals as goal

pub offset_bounds-ports-k : goal.offset_bounds-ports-k
offset_bounds-ports-k c = let s = c in omega (arith, in-64 _ _ _ s.self.view_is s.self.invariant s.args.k s.requires)

pub bounds-ports-k : goal.bounds-ports-k
bounds-ports-k c = in-table _ _ _ c.self.view_is c.self.invariant c.args.k c.requires

pub returns : goal.returns
returns c = index-is _ _ _ c.self.view_is c.self.invariant c.args.k c.requires
