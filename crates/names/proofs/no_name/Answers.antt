use Rattle.names.proofs.Search.{no-empty, no-long}
use borrow.Author.Rules.{rules}
use Rattle.names.proofs.no_name.Goals as goal

pub returns-then-byte_at-eq0 : goal.returns-then-byte_at-eq0
returns-then-byte_at-eq0 c = search (rules, no-empty)

pub returns : goal.returns
returns c = search (rules, no-long)
