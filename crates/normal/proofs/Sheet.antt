-- The sheet P1 to P12, computed from the definitions.
--     sheet-holds     the name list of the sheet breaks no rule and has 40 entries, and every row is as the sheet says
use mathlib.Core.Path.{◌≡◌, refl}
use mathlib.Core.Bool.{true}
use Rattle.basics.specs.Numbers.{u16_at, u32_at}
use Rattle.basics.specs.Scan.{all, any, first}
use Rattle.bits.specs.Bit.{number}
use Rattle.bits.specs.Set.{has, words_of, some_past, past}
use Rattle.word_bytes.specs.Bytes.{table, words_in, bytes_of}
use Rattle.bits.specs.Change.{applied, list_mask, list_value}
use Rattle.entries.specs.Entry.{entry_at, same_entry, differs, entry_new, entries_distinct}
use Rattle.basics.specs.Nuls.{same_byte, nul_then_nul}
use Rattle.names.specs.Rule.{entry_right, right_at, names_right}
use Rattle.names.specs.Search.{is_entry, no_name, lookup}
use Rattle.netlink_attributes.specs.Attributes.{attribute_at, part_of, attributes_up_to, attributes}
use Rattle.netlink.specs.Policy as P
use Rattle.netlink.specs.Walk.{first_fault, last_of_type, walked, slot_number}
use Rattle.netlink_write.specs.Headers.{attribute_header_bytes}
use Rattle.netlink_write.specs.Attributes.{padding, attr, nest}
use Rattle.bitset_form.specs.Bitset.{effect, mask_of, value_of}
use Rattle.bitset_form.specs.Parts.{bitset_parts, bit_parts}
use Rattle.bitset_compact.specs.Compact.{nomask_reading, masked_reading, compact_reading}
use Rattle.bitset_bit.specs.Bit as BT
use Rattle.bitset_list.specs.BitList as BL
use Rattle.bitset.specs.Judge.{mixed_at, bitset_parts_reading, bitset_reading}
use Rattle.bitset_write.specs.Form.{parts_bytes, form_bytes}
use Rattle.normal.specs.Normal.{normal_form}
use Rattle.normal.specs.Sheet.{sheet_names, sheet, holds}

pub sheet-holds : holds sheet ≡ true
unfolding sheet_names sheet names_right right_at entry_right entries_distinct entry_new differs nul_then_nul u16_at u32_at all any first number has words_of some_past past table words_in bytes_of applied list_mask list_value entry_at same_byte same_entry is_entry no_name lookup attribute_at part_of attributes_up_to attributes P.rule_of P.nul_at P.is_name_payload P.plain P.nested P.judged first_fault last_of_type walked slot_number attribute_header_bytes padding attr nest effect mask_of value_of bitset_parts bit_parts nomask_reading masked_reading compact_reading BT.bit_by_index BT.bit_by_name BT.identified BT.bit_parts_reading BT.bit_walked BT.bit_reading BL.bits_reading BL.list_reading mixed_at bitset_parts_reading bitset_reading parts_bytes form_bytes normal_form
sheet-holds = refl
