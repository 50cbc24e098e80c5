use Rattle.entries.proofs.Eights.{same_numbers}
use Rattle.entries.proofs.same.same_entry.Goals as goal

pub returns : goal.returns
returns c = let s = c in same_numbers s.args.list.now _ _ s.requires.0 s.requires.1 (λ j. (c.type_inv.list j).fits) _ _ _ _ c.same_eight.ensures c.same_eight-2.ensures c.same_eight-3.ensures c.same_eight-4.ensures
