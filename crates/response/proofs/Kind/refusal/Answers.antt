use mathlib.Core.Path.{ap, sym, ◌∙◌}
use Rattle.response.specs.Answer.{refusal_number}
use Rattle.response.proofs.Kind.refusal.Goals as goal

pub returns-in-Refused : goal.returns-in-Refused
returns-in-Refused c = c.number.ensures ∙ ap refusal_number (sym c.in-Refused.is)
