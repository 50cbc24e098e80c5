use mathlib.Core.Path.{refl}
use borrow.Author.Rules.{rules}
use Rattle.answer.proofs.main.Goals as goal

pub answer_input-requires : goal.answer_input-requires
answer_input-requires c = (search rules, search rules, refl)
