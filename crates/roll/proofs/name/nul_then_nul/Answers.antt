use Rattle.roll.proofs.name.Laws.{nul-laws}
use borrow.Author.Rules.{rules}
use Rattle.roll.proofs.name.nul_then_nul.Goals as goal

pub returns-then-byte_at-ne0 : goal.returns-then-byte_at-ne0
returns-then-byte_at-ne0 c = search (rules, nul-laws)

pub returns : goal.returns
returns c = search (rules, nul-laws)
