use Rattle.netlink.proofs.walk.Laws.{walk-laws}
use borrow.Author.Rules.{rules}
use Rattle.netlink.proofs.walk.walk.Goals as goal

pub loop-slots-init : goal.loop-slots-init
loop-slots-init c = search (rules, walk-laws)

pub read_attribute-requires : goal.read_attribute-requires
read_attribute-requires c = search (rules, walk-laws)

pub enum_told-1 : goal.enum_told-1
enum_told-1 c = search (rules, walk-laws)

pub returns-in-End : goal.returns-in-End
returns-in-End c = search (rules, walk-laws)

pub enum_told-in-Broken : goal.enum_told-in-Broken
enum_told-in-Broken c = search (rules, walk-laws)

pub stopped-requires : goal.stopped-requires
stopped-requires c = search (rules, walk-laws)

pub returns-in-Broken : goal.returns-in-Broken
returns-in-Broken c = search (rules, walk-laws)

pub enum_known-x : goal.enum_known-x
enum_known-x c = search (rules, walk-laws)

pub rule_of-requires : goal.rule_of-requires
rule_of-requires c = search (rules, walk-laws)

pub payload-requires : goal.payload-requires
payload-requires c = search (rules, walk-laws)

pub judge_by_rule-requires : goal.judge_by_rule-requires
judge_by_rule-requires c = search (rules, walk-laws)

pub enum_known-fault : goal.enum_known-fault
enum_known-fault c = search (rules, walk-laws)

pub stopped-requires-in-Wrong : goal.stopped-requires-in-Wrong
stopped-requires-in-Wrong c = search (rules, walk-laws)

pub returns-in-Wrong : goal.returns-in-Wrong
returns-in-Wrong c = search (rules, walk-laws)

pub enum_told-in-Right : goal.enum_told-in-Right
enum_told-in-Right c = search (rules, walk-laws)

pub overflow_cast-k : goal.overflow_cast-k
overflow_cast-k c = search (rules, walk-laws)

pub found-requires : goal.found-requires
found-requires c = search (rules, walk-laws)

pub offset_bounds-slots-k : goal.offset_bounds-slots-k
offset_bounds-slots-k c = search (rules, walk-laws)

pub bounds-slots-k : goal.bounds-slots-k
bounds-slots-k c = search (rules, walk-laws)

pub loop-slots-smaller : goal.loop-slots-smaller
loop-slots-smaller c = search (rules, walk-laws)

pub loop-slots-preserved : goal.loop-slots-preserved
loop-slots-preserved c = search (rules, walk-laws)
