use native.Mathlib.Omega.{arith}
use Rattle.roll.proofs.table.Laws.{inside-is, four-is}
use borrow.Author.Rules.{rules}
use Rattle.roll.proofs.table.Roll.probe_of.Goals as goal

pub four-requires : goal.four-requires
four-requires c = let s = c in omega (arith, inside-is _ _ _ s.self.view_is s.self.invariant s.args.k s.requires)

pub returns : goal.returns
returns c = let given = four-is _ _ _ c.self.view_is c.self.invariant c.args.k c.requires in search (rules, given)
