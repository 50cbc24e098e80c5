use Rattle.request.proofs.header.Laws.{header-laws}
use borrow.Author.Rules.{rules}
use Rattle.request.proofs.header.read_header.Goals as goal

pub returns-in-At : goal.returns-in-At
returns-in-At c = search (rules, header-laws)

pub returns-then-dump : goal.returns-then-dump
returns-then-dump c = search (rules, header-laws)

pub returns : goal.returns
returns c = search (rules, header-laws)
