use native.Mathlib.Omega.{arith}
use Rattle.answer.proofs.Laws.{next_small}
use Rattle.answer.proofs.output.Written.send.Goals as goal

pub overflow_add-result : goal.overflow_add-result
overflow_add-result c = omega (arith, next_small)
