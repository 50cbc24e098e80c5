-- The program's box has one port and breaks no rule, so that its messages are answered, at place 0 and in a dump at place 1.
use Prim.Native.Nat.{ℕ, ◌≤◌}
use mathlib.Core.Path.{◌≡◌, refl}
use mathlib.Core.Bool.{true}
use borrow.Author.Tests.{le-leb}
use Rattle.basics.specs.Scan.{all}
use Rattle.basics.specs.Numbers.{byte_at, u32_at}
use Rattle.bits.specs.Set as B
use Rattle.entries.specs.Entry as E
use Rattle.basics.specs.Nuls as U
use Rattle.names.specs.Rule as N
use Rattle.netlink_attributes.specs.Attributes.{part_of}
use Rattle.roll.specs.Record as P
use Rattle.roll.specs.Name as M
use Rattle.roll_rule.specs.Rule as R
use Rattle.layout.specs.Layout as L
use Rattle.boxes.specs.Settings as S
use Rattle.boxes.specs.Box.{ports_in}
use Rattle.boxes.specs.Rule.{family_right, admin_right, place_right, lists_right, box_right}
use Rattle.answer.specs.Box.{port_roll, debug_names, flag_names, first_words, program_box, first_state}
use Rattle.answer.specs.Run.{call_at}

pub one-port : ports_in program_box ≡ 1
unfolding port_roll program_box byte_at P.port_count P.ports_of P.record_ports P.records P.records_up_to P.record_at P.record_size
one-port = refl

pub box-right : (at place : ℕ) → place ≤ 1 → box_right program_box first_state (call_at at place) ≡ true
unfolding box_right lists_right family_right admin_right place_right port_roll debug_names flag_names first_words program_box first_state all byte_at u32_at part_of R.roll_right R.port_right R.ports_distinct R.is_new R.another P.ports_listed P.all_whole P.port_count P.ports_of P.record_ports P.port_at P.index_of P.name_of P.records P.records_up_to P.record_at P.record_size M.name_at M.name_right U.nul_then_nul N.names_right N.right_at N.entry_right E.entry_at E.entries_distinct E.entry_new E.differs E.same_entry U.same_byte S.settings_right S.port_clear S.set_clear L.list_of L.size_of L.every_set L.port_words L.first_of L.total_words L.set_place L.set_at B.none_from B.clear_from B.has
box-right at place h = rw (le-leb place 1 h) refl
