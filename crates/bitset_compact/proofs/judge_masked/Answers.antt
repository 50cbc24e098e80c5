use Rattle.bitset_compact.proofs.Laws.{masked_right}
use borrow.Author.Rules.{rules}
use Rattle.bitset_compact.proofs.judge_masked.Goals as goal

pub returns : goal.returns
returns c = search (rules, masked_right)
