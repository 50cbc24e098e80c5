use native.Mathlib.Omega.{arith}
use Rattle.netlink_headers.proofs.headers.Laws.{generic-short, generic-whole}
use native.Mathlib.Omega.{arith}
use borrow.Author.Rules.{rules}
use Rattle.netlink_headers.proofs.headers.GenericHeader.read.Goals as goal

pub returns-then-s-lt-SIZE : goal.returns-then-s-lt-SIZE
returns-then-s-lt-SIZE c = generic-short _ _ (omega arith)

pub returns-then-s-at : goal.returns-then-s-at
returns-then-s-at c = generic-short _ _ (omega arith)

pub returns : goal.returns
returns c = generic-whole _ _ _ _ _ (omega arith) (search rules) (search rules) (search rules)
