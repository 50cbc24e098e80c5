use borrow.Author.Rules.{rules}
use Rattle.answer.proofs.Reading.{input-laws}
use Rattle.answer.proofs.answer_input.Goals as goal

pub slice_bounds-answer_datagram-end : goal.slice_bounds-answer_datagram-end
slice_bounds-answer_datagram-end c = search (rules, input-laws)

pub returns : goal.returns
returns c = search (rules, input-laws)
