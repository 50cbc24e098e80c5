use Rattle.netlink_headers.proofs.lengths.Laws.{step-bytes}
use Rattle.strset_reply.proofs.length.Laws.{port-length-laws}
use borrow.Author.Rules.{rules}
use Rattle.strset_reply.proofs.length.port_length.Goals as goal

pub returns-then-not-named : goal.returns-then-not-named
returns-then-not-named c = search (rules, port-length-laws)

pub returns-then-n-eq0 : goal.returns-then-n-eq0
returns-then-n-eq0 c = search (rules, port-length-laws)

pub overflow_add-stated : goal.overflow_add-stated
overflow_add-stated c = search (rules, port-length-laws)

pub overflow_cast-stated : goal.overflow_cast-stated
overflow_cast-stated c = search (rules, port-length-laws)

pub returns : goal.returns
returns c = search (rules, port-length-laws, step-bytes)
