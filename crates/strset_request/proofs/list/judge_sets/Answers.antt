use Rattle.basics.proofs.Results.{err-passed}
use Rattle.strset_request.proofs.list.Laws.{sets-refused, sets_more, sets-laws}
use borrow.Author.Rules.{rules}
use Rattle.strset_request.proofs.list.judge_sets.Goals as goal

pub loop-x-init : goal.loop-x-init
loop-x-init c = search (rules, sets-laws)

pub read_attribute-requires : goal.read_attribute-requires
read_attribute-requires c = search (rules, sets-laws)

pub enum_told-1 : goal.enum_told-1
enum_told-1 c = search (rules, sets-laws)

pub returns-in-End : goal.returns-in-End
returns-in-End c = search (rules, sets-laws)

pub enum_told-in-Broken : goal.enum_told-in-Broken
enum_told-in-Broken c = search (rules, sets-laws)

pub returns-in-Broken : goal.returns-in-Broken
returns-in-Broken c = search (rules, sets-laws)

pub enum_known-x : goal.enum_known-x
enum_known-x c = search (rules, sets-laws)

pub payload-requires : goal.payload-requires
payload-requires c = search (rules, sets-laws)

pub judge_set-requires : goal.judge_set-requires
judge_set-requires c = search (rules, sets-laws)

pub with_asked-sets-requires : goal.with_asked-sets-requires
with_asked-sets-requires c = search (rules, sets-laws)

pub loop-x-smaller : goal.loop-x-smaller
loop-x-smaller c = search (rules, sets-laws)

pub loop-x-preserved : goal.loop-x-preserved
loop-x-preserved c = let was = c.in_ok-set-in-Attribute.was in search (rules, sets_more, was)

pub returns-in_err-set-in-Attribute : goal.returns-in_err-set-in-Attribute
returns-in_err-set-in-Attribute c = let passed = err-passed c.from_residual.result _ c.from_residual.ensures in let was = c.in_err-set-in-Attribute.was in search (rules, sets-refused, passed, was)
