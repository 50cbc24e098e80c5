use Rattle.basics.proofs.Results.{err-passed}
use Rattle.request.specs.Port.{port_by_index}
use Rattle.request.proofs.port.Laws.{index-here}
use borrow.Author.Rules.{rules}
use Rattle.request.proofs.port.port_by_index.Goals as goal

pub returns-in_err-position : goal.returns-in_err-position
unfolding port_by_index
returns-in_err-position c = let passed = err-passed c.from_residual.result _ c.from_residual.ensures in search (rules, passed)

pub other_name-requires : goal.other_name-requires
other_name-requires c = index-here _ _ _ _ _ _ c.port_of_index.ensures c.ok_or.ensures.value c.in_ok-position.was

pub returns-then-other_name : goal.returns-then-other_name
unfolding port_by_index
returns-then-other_name c = search rules

pub returns : goal.returns
unfolding port_by_index
returns c = search rules
