use Rattle.execute.proofs.Decided.{execute-refused, execute-performs}
use Rattle.decision.proofs.In.{decided-in}
use borrow.Author.Rules.{rules}
use Rattle.execute.proofs.execute.Goals as goal

pub returns-in-Err : goal.returns-in-Err
returns-in-Err c = let given = c.requires in search (rules, execute-refused)

pub carry_out-requires : goal.carry_out-requires
carry_out-requires c = search (rules, decided-in)

pub returns-in-Ok : goal.returns-in-Ok
returns-in-Ok c = let given = c.requires in search (rules, execute-performs)
