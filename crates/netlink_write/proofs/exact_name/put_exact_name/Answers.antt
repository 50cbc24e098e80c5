use Rattle.netlink_headers.proofs.lengths.Laws.{step-bytes}
use Rattle.netlink_write.proofs.exact_name.Laws.{exact_laws}
use borrow.Author.Rules.{rules}
use Rattle.netlink_write.proofs.exact_name.put_exact_name.Goals as goal

pub returns : goal.returns
returns c = search (rules, exact_laws, step-bytes)
