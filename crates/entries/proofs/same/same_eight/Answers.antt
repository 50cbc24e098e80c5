use mathlib.Core.Path.{ap₂}
use lib.Dec.{eqb}
use Rattle.entries.proofs.same.same_eight.Goals as goal

pub returns : goal.returns
returns c = ap₂ eqb c.eight.ensures c.eight-2.ensures
