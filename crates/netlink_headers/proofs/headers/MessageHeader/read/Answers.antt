use native.Mathlib.Omega.{arith}
use Rattle.netlink_headers.proofs.headers.Laws.{message-short, message-whole}
use native.Mathlib.Omega.{arith}
use borrow.Author.Rules.{rules}
use Rattle.netlink_headers.proofs.headers.MessageHeader.read.Goals as goal

pub returns-then-s-lt-SIZE : goal.returns-then-s-lt-SIZE
returns-then-s-lt-SIZE c = message-short _ _ (omega arith)

pub returns-then-s-at : goal.returns-then-s-at
returns-then-s-at c = message-short _ _ (omega arith)

pub returns : goal.returns
returns c = message-whole _ _ _ _ _ _ _ (omega arith) (search rules) (search rules) (search rules) (search rules) (search rules)
