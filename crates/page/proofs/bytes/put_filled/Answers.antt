use mathlib.Core.Path.{refl}
use Rattle.page.proofs.bytes.Laws.{filled_put}
use Rattle.page.proofs.bytes.put_filled.Goals as goal

pub returns : goal.returns
returns c = let s = c in filled_put _ _ _ _ _ _ _ _ s.requires.0 s.requires.1 s.requires.2 c.min-m.ensures refl c.put_bytes.ensures c.put_zeros.ensures
