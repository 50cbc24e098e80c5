use native.Mathlib.Omega.{arith}
use Rattle.layout.proofs.Laws.{words-room, words-is}
use borrow.Author.Rules.{rules}
use Rattle.layout.proofs.total_words.Goals as goal

pub overflow_mul-result : goal.overflow_mul-result
overflow_mul-result c = omega (arith, words-room _ _ _ c.requires.0 c.requires.1 c.port_words.ensures)

pub returns : goal.returns
returns c = search (rules, words-is)
