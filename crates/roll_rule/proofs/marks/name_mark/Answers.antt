use mathlib.Core.Path.{◌∙◌}
use native.Mathlib.Omega.{arith}
use Rattle.roll_rule.proofs.marks.Laws.{name-mark-is}
use Rattle.roll_rule.proofs.marks.name_mark.Goals as goal

pub returns : goal.returns
returns c = (
  name-mark-is _ _ _ _ _ (c.wide64-a.ensures.0 ∙ c.four.ensures) (c.wide64-b.ensures.0 ∙ c.four-2.ensures) (c.wide64-c.ensures.0 ∙ c.four-3.ensures) (c.wide64-d.ensures.0 ∙ c.four-4.ensures),
  omega arith,
)
