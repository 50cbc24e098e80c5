use Rattle.netlink_headers.proofs.lengths.Laws.{step-bytes}
use Rattle.strset_reply.proofs.length.Laws.{string-length-laws}
use borrow.Author.Rules.{rules}
use Rattle.strset_reply.proofs.length.string_length.Goals as goal

pub overflow_add-stated : goal.overflow_add-stated
overflow_add-stated c = search (rules, string-length-laws)

pub overflow_cast-stated : goal.overflow_cast-stated
overflow_cast-stated c = search (rules, string-length-laws)

pub returns : goal.returns
returns c = search (rules, string-length-laws, step-bytes)
