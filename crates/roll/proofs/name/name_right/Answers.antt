use Rattle.roll.proofs.name.Laws.{right-laws}
use borrow.Author.Rules.{rules}
use Rattle.roll.proofs.name.name_right.Goals as goal

pub byte_at-requires : goal.byte_at-requires
byte_at-requires c = search (rules, right-laws)

pub returns-then-byte_at-eq0 : goal.returns-then-byte_at-eq0
returns-then-byte_at-eq0 c = search (rules, right-laws)

pub byte_at-requires-2 : goal.byte_at-requires-2
byte_at-requires-2 c = search (rules, right-laws)

pub returns-then-byte_at-ne0 : goal.returns-then-byte_at-ne0
returns-then-byte_at-ne0 c = search (rules, right-laws)

pub loop-j-init : goal.loop-j-init
loop-j-init c = search (rules, right-laws)

pub nul_then_nul-requires : goal.nul_then_nul-requires
nul_then_nul-requires c = search (rules, right-laws)

pub returns-then-not-nul_then_nul : goal.returns-then-not-nul_then_nul
returns-then-not-nul_then_nul c = search (rules, right-laws)

pub overflow_step-j : goal.overflow_step-j
overflow_step-j c = search (rules, right-laws)

pub loop-j-smaller : goal.loop-j-smaller
loop-j-smaller c = search (rules, right-laws)

pub loop-j-preserved : goal.loop-j-preserved
loop-j-preserved c = search (rules, right-laws)

pub returns : goal.returns
returns c = search (rules, right-laws)
