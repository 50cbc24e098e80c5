use native.Mathlib.Omega.{arith}
use Rattle.netlink_headers.proofs.headers.Laws.{attribute-short, attribute-whole}
use native.Mathlib.Omega.{arith}
use borrow.Author.Rules.{rules}
use Rattle.netlink_headers.proofs.headers.AttributeHeader.read.Goals as goal

pub returns-then-s-lt-SIZE : goal.returns-then-s-lt-SIZE
returns-then-s-lt-SIZE c = attribute-short _ _ (omega arith)

pub returns-then-s-at : goal.returns-then-s-at
returns-then-s-at c = attribute-short _ _ (omega arith)

pub returns : goal.returns
returns c = attribute-whole _ _ _ _ (omega arith) (search rules) (search rules)
