use Rattle.bitset_reply.proofs.list.Laws.{bits-laws}
use borrow.Author.Rules.{rules}
use Rattle.bitset_reply.proofs.list.put_bits.Goals as goal

pub loop-i-init : goal.loop-i-init
loop-i-init c = search (rules, bits-laws)

pub slice_bounds-put_listed_bit-count : goal.slice_bounds-put_listed_bit-count
slice_bounds-put_listed_bit-count c = search (rules, bits-laws)

pub slice_bounds-put_listed_bit-start : goal.slice_bounds-put_listed_bit-start
slice_bounds-put_listed_bit-start c = search (rules, bits-laws)

pub slice_bounds-put_listed_bit-end : goal.slice_bounds-put_listed_bit-end
slice_bounds-put_listed_bit-end c = search (rules, bits-laws)

pub put_listed_bit-at-requires : goal.put_listed_bit-at-requires
put_listed_bit-at-requires c = search (rules, bits-laws)

pub overflow_add-at : goal.overflow_add-at
overflow_add-at c = search (rules, bits-laws)

pub overflow_add-i : goal.overflow_add-i
overflow_add-i c = search (rules, bits-laws)

pub loop-i-smaller : goal.loop-i-smaller
loop-i-smaller c = search (rules, bits-laws)

pub loop-i-preserved : goal.loop-i-preserved
loop-i-preserved c = search (rules, bits-laws)

pub shape_of-page : goal.shape_of-page
shape_of-page c = search (rules, bits-laws)

pub returns : goal.returns
returns c = search (rules, bits-laws)
