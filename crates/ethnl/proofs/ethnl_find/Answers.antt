use Rattle.ethnl.proofs.Laws.{find-refused}
use Rattle.ethnl.proofs.ethnl_find.Goals as goal

pub returns-in-Err : goal.returns-in-Err
returns-in-Err c = find-refused _ _ c.find.result c.find.ensures c.in-Err.why _ c.in-Err.is c.number.ensures
