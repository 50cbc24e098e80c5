use Rattle.bitset_reply.proofs.list.Laws.{bit-laws}
use borrow.Author.Rules.{rules}
use Rattle.bitset_reply.proofs.list.put_listed_bit.Goals as goal

pub returns-then-not-test_bit : goal.returns-then-not-test_bit
returns-then-not-test_bit c = search (rules, bit-laws)

pub put_index_nest-requires : goal.put_index_nest-requires
put_index_nest-requires c = search (rules, bit-laws)

pub returns : goal.returns
returns c = search (rules, bit-laws)
