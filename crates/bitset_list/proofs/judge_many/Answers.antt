use Rattle.name_index.proofs.Keys.{cleared-zero}
use borrow.Author.Rules.{rules}
use Rattle.bitset_list.proofs.judge_many.Goals as goal

pub index-indexed-requires : goal.index-indexed-requires
index-indexed-requires c = (cleared-zero, search rules)
