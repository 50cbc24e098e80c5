use Rattle.request.proofs.header.Laws.{flags-laws}
use borrow.Author.Rules.{rules}
use Rattle.request.proofs.header.judge_flags.Goals as goal

pub returns-then-flags-gt-KNOWN_FLAGS : goal.returns-then-flags-gt-KNOWN_FLAGS
returns-then-flags-gt-KNOWN_FLAGS c = search (rules, flags-laws)

pub returns : goal.returns
returns c = search (rules, flags-laws)
