use Rattle.roll.proofs.table.Laws.{table-laws}
use borrow.Author.Rules.{rules}
use Rattle.roll.proofs.table.read_ports.Goals as goal

pub loop-port-init : goal.loop-port-init
loop-port-init c = search (rules, table-laws)

pub read_record-requires : goal.read_record-requires
read_record-requires c = search (rules, table-laws)

pub enum_known-port : goal.enum_known-port
enum_known-port c = search (rules, table-laws)

pub shape_of-table-then-count-eq-PORTS : goal.shape_of-table-then-count-eq-PORTS
shape_of-table-then-count-eq-PORTS c = search (rules, table-laws)

pub returns-then-count-eq-PORTS : goal.returns-then-count-eq-PORTS
returns-then-count-eq-PORTS c = search (rules, table-laws)

pub u32_at-requires : goal.u32_at-requires
u32_at-requires c = search (rules, table-laws)

pub word-requires : goal.word-requires
word-requires c = search (rules, table-laws)

pub offset_bounds-table-count : goal.offset_bounds-table-count
offset_bounds-table-count c = search (rules, table-laws)

pub bounds-table-count : goal.bounds-table-count
bounds-table-count c = search (rules, table-laws)

pub overflow_add-count : goal.overflow_add-count
overflow_add-count c = search (rules, table-laws)

pub loop-port-smaller : goal.loop-port-smaller
loop-port-smaller c = search (rules, table-laws)

pub loop-port-preserved : goal.loop-port-preserved
loop-port-preserved c = search (rules, table-laws)

pub enum_told-1 : goal.enum_told-1
enum_told-1 c = search (rules, table-laws)

pub shape_of-table-in-Unknown : goal.shape_of-table-in-Unknown
shape_of-table-in-Unknown c = search (rules, table-laws)

pub returns-in-Unknown : goal.returns-in-Unknown
returns-in-Unknown c = search (rules, table-laws)

pub enum_told-in-Cut : goal.enum_told-in-Cut
enum_told-in-Cut c = search (rules, table-laws)

pub shape_of-table-in-Cut : goal.shape_of-table-in-Cut
shape_of-table-in-Cut c = search (rules, table-laws)

pub returns-in-Cut : goal.returns-in-Cut
returns-in-Cut c = search (rules, table-laws)

pub enum_told-in-End : goal.enum_told-in-End
enum_told-in-End c = search (rules, table-laws)

pub shape_of-table-in-End : goal.shape_of-table-in-End
shape_of-table-in-End c = search (rules, table-laws)

pub returns-in-End : goal.returns-in-End
returns-in-End c = search (rules, table-laws)
