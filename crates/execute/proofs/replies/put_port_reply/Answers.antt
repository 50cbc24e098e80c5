use native.Mathlib.Omega.{arith}
use Rattle.execute.proofs.replies.Laws.{reply-name, reply-words, reply-few, port-laws}
use borrow.Author.Rules.{rules}
use Rattle.execute.proofs.replies.put_port_reply.Goals as goal

pub put_reply-requires : goal.put_reply-requires
put_reply-requires c =
    let given = c.requires in
    (search (rules, reply-name), search (rules, reply-words), search (rules, reply-few), omega (arith, given.in_bounds.0))

pub returns : goal.returns
returns c = search (rules, port-laws)
