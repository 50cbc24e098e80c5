use mathlib.Core.Path.{refl}
use native.Mathlib.Omega.{arith}
use Rattle.entries.proofs.Chains.{walk_start, walk_end, walk_same, walk-less, walk-next}
use Rattle.entries.proofs.chain.chain_new.Goals as goal

pub loop-p-init : goal.loop-p-init
loop-p-init c = let s = c in walk_start _ _ s.requires.i_in_bounds.0 _ s.requires.start_value

pub returns-then-p-eq0 : goal.returns-then-p-eq0
returns-then-p-eq0 c = walk_end _ _ c.requires.i_in_bounds.0 _ c.loop-p.invariant c.if-p-eq0.true

pub returns-then-same_entry : goal.returns-then-same_entry
returns-then-same_entry c = let s = c in walk_same _ _ s.requires.i_in_bounds.0 _ _ (omega arith) c.same_entry.ensures c.if-same_entry.true

pub loop-p-smaller : goal.loop-p-smaller
loop-p-smaller c = let s = c in walk-less _ _ s.requires.i_in_bounds.0 _ _ _ s.args.links.now c.loop-p.invariant c.if-p-eq0.false refl c.place_in-p.ensures s.requires.links_right

pub loop-p-preserved : goal.loop-p-preserved
loop-p-preserved c = let s = c in walk-next _ _ s.requires.i_in_bounds.0 _ _ _ s.args.links.now c.loop-p.invariant c.if-p-eq0.false refl c.place_in-p.ensures s.requires.links_right _ c.same_entry.ensures c.if-same_entry.false
