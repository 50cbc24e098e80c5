use mathlib.Core.Path.{refl}
use Rattle.answer.specs.Box.{port_roll, debug_names, flag_names, first_words, program_box, first_state}
use borrow.Author.Rules.{rules}
use Rattle.answer.proofs.answer_datagram.Goals as goal

pub answer_all-requires : goal.answer_all-requires
unfolding port_roll debug_names flag_names first_words program_box first_state
answer_all-requires c = (refl, refl, search rules)
