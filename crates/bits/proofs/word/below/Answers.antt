use borrow.Author.Rules.{rules}
use Rattle.bits.proofs.Cut.{below-full, below-empty, below-part, one_shifted}
use Rattle.bits.proofs.word.below.Goals as goal

pub returns-then-j-whole : goal.returns-then-j-whole
returns-then-j-whole c = search (rules, below-full)

pub returns-then-whole-j : goal.returns-then-whole-j
returns-then-whole-j c = search (rules, below-empty)

pub overflow_sub-result : goal.overflow_sub-result
overflow_sub-result c = search (rules, one_shifted)

pub returns : goal.returns
returns c = search (rules, below-part)
