use Rattle.index_name.proofs.Laws.{name-empty, name-first}
use Rattle.index_name.proofs.is_unnamed.Goals as goal

pub returns-then-name-eq0 : goal.returns-then-name-eq0
returns-then-name-eq0 c = name-empty _ c.if-name-eq0.true

pub returns : goal.returns
returns c = name-first _
