use mathlib.Core.Path.{refl}
use Rattle.bitset_form.specs.Parts.{bitset_parts}
use Rattle.bitset_form.proofs.parts.bitset_parts.Goals as goal

pub returns : goal.returns
unfolding bitset_parts
returns c = refl
