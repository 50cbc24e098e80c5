use Rattle.execute.proofs.Laws.{carry-laws}
use Rattle.decision.proofs.In.{get_in, set-in}
use borrow.Author.Rules.{rules}
use Rattle.execute.proofs.carry_out.Goals as goal

pub get-requires : goal.get-requires
get-requires c = search (rules, get_in)

pub returns-in-Get : goal.returns-in-Get
returns-in-Get c = search (rules, carry-laws)

pub returns-in-Dump : goal.returns-in-Dump
returns-in-Dump c = search (rules, carry-laws)

pub change-requires : goal.change-requires
change-requires c = search (rules, set-in)

pub returns-in-Set : goal.returns-in-Set
returns-in-Set c = search (rules, carry-laws)
