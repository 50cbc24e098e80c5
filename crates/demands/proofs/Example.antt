-- The whole example (specs/Example), computed from the definitions of what `ethnl_handle` answers.
--     example-run    six messages, one of them refused, and the end: kind, next position, bytes written and settings left, each as the example has it
use Prim.Native.Nat.{ℕ}
use mathlib.Core.Path.{◌≡◌, refl}
use mathlib.Core.List.{List, [], ◌++◌}
use Rattle.basics.specs.Numbers as NB
use Rattle.basics.specs.Scan as SC
use Rattle.basics.specs.Nuls as NU
use Rattle.basics.specs.Put as PU
use Rattle.bits.specs.Bit as Bi
use Rattle.bits.specs.Set as BS
use Rattle.bits.specs.Change as BC
use Rattle.word_bytes.specs.Bytes as Wb
use Rattle.entries.specs.Entry as EN
use Rattle.names.specs.Rule as NR
use Rattle.names.specs.Search as NS
use Rattle.netlink_headers.specs.Messages as ME
use Rattle.netlink_attributes.specs.Attributes as AT
use Rattle.netlink.specs.Policy as PO
use Rattle.netlink.specs.Walk as WA
use Rattle.netlink_write.specs.Headers as HW
use Rattle.netlink_write.specs.Attributes as AW
use Rattle.netlink_error.specs.Error as ER
use Rattle.index_name.specs.IndexName as IN
use Rattle.bitset_form.specs.Bitset as BF
use Rattle.bitset_form.specs.Parts as BP
use Rattle.bitset_compact.specs.Compact as CO
use Rattle.bitset_bit.specs.Bit as BT
use Rattle.bitset_list.specs.BitList as BL
use Rattle.bitset.specs.Judge as JU
use Rattle.layout.specs.Layout as LA
use Rattle.roll.specs.Record as RR
use Rattle.roll.specs.Name as RN
use Rattle.roll.specs.Find as RF
use Rattle.roll_rule.specs.Rule as RU
use Rattle.boxes.specs.Box as BO
use Rattle.boxes.specs.Settings as SE
use Rattle.boxes.specs.Rule as BR
use Rattle.admission.specs.Admission as AD
use Rattle.admission.specs.Commands as CM
use Rattle.request.specs.Policies as RP
use Rattle.request.specs.Parts as PA
use Rattle.request.specs.Top as TO
use Rattle.request.specs.Header as HE
use Rattle.request.specs.Port as PT
use Rattle.request.specs.Target as TA
use Rattle.bitset_reply.specs.Set as ST
use Rattle.bitset_reply.specs.List as LI
use Rattle.netlink_dump.specs.Dump as DU
use Rattle.reply.specs.Message as RM
use Rattle.refusal.specs.declared.Refusal.TheVariants.{Box, Dump, TwoBits}
use Rattle.response.specs.Answer as Ra
use Rattle.execute.specs.Execute as EX
use Rattle.handler.specs.Call as HC
use Rattle.handler.specs.Bytes as HB
use Rattle.response.specs.Answer.{Outcome, response_of}
use Rattle.response.specs.declared.Kind.{Kind}
use Rattle.response.specs.declared.Kind.TheVariants.{End, Done, Refused}
use Rattle.handler.specs.Bytes.{Stored, stored_of}
use Rattle.demands.specs.Example.{example_roll, example_debug, example_flags, example_box, example_call, first_settings, second_settings, third_settings, fourth_settings, debug_set_ack, flags_reply, debug_reply, debug_get_ack, other_name_error, first_port, second_port, flags_dump_done, named_dump_error, example_datagram}

-- a call of the example, with settings, at a position and a place
abbrev handled : List ℕ → ℕ → ℕ → Outcome Stored
handled settings position place = HB.bytes_outcome example_box (stored_of settings) (example_call position place) example_datagram 32768

-- what is answered and left
abbrev answered : Kind → ℕ → List ℕ → List ℕ → Outcome Stored
answered kind next bytes settings = record { response = response_of kind next bytes; state = stored_of settings }

-- a port's reply of the dump, and the next place
abbrev told : ℕ → List ℕ → Outcome Stored
told place bytes = record { response = record { kind = Done; next = 364; place = place; bytes = bytes }; state = stored_of fourth_settings }

pub example-run : (handled first_settings 0 0 ≡ answered Done 88 debug_set_ack second_settings)
    × (handled second_settings 88 0 ≡ answered Done 128 flags_reply second_settings)
    × (handled second_settings 128 0 ≡ answered Done 168 (debug_reply ++ debug_get_ack) second_settings)
    × (handled second_settings 168 0 ≡ answered Done 228 [] third_settings)
    × (handled third_settings 228 0 ≡ answered (Refused (TwoBits 40)) 296 other_name_error third_settings)
    × (handled third_settings 296 0 ≡ answered Done 364 [] fourth_settings)
    × (handled fourth_settings 364 0 ≡ told 1 first_port)
    × (handled fourth_settings 364 1 ≡ told 2 second_port)
    × (handled fourth_settings 364 2 ≡ answered Done 396 flags_dump_done fourth_settings)
    × (handled fourth_settings 364 3 ≡ answered (Refused Box) 364 [] fourth_settings)
    × (handled fourth_settings 396 0 ≡ answered (Refused Dump) 428 named_dump_error fourth_settings)
    × (handled fourth_settings 428 0 ≡ answered End 428 [] fourth_settings)
unfolding example_roll example_debug example_flags example_box NB.byte_at NB.u16_at NB.u32_at SC.all SC.any SC.first NU.nul_then_nul NU.same_byte PU.put PU.splice Bi.number BS.has BS.words_of BS.none_from BS.clear_from BS.some_past BS.past BC.applied BC.list_mask BC.list_value Wb.table Wb.words_in Wb.bytes_of EN.entry_at EN.entries_distinct EN.entry_new EN.differs EN.same_entry NR.names_right NR.right_at NR.entry_right NS.is_entry NS.no_name NS.lookup ME.message_at AT.attribute_at AT.part_of AT.attributes_up_to AT.attributes PO.rule_of PO.nul_at PO.is_name_payload PO.plain PO.nested PO.judged WA.first_fault WA.last_of_type WA.walked WA.slot_number HW.message_header_bytes HW.generic_header_bytes HW.attribute_header_bytes AW.padding AW.attr AW.nest AW.name_bytes ER.detail_bytes ER.flags_of ER.negative ER.error_header ER.error_start ER.error_message IN.index_nest IN.index_and_name IN.name_if_any BF.effect BP.bitset_parts BP.bit_parts CO.nomask_reading CO.masked_reading CO.compact_reading BT.bit_by_index BT.bit_by_name BT.identified BT.bit_parts_reading BT.bit_walked BT.bit_reading BL.bits_reading BL.list_reading JU.mixed_at JU.bitset_parts_reading JU.bitset_reading LA.list_of LA.size_of LA.every_set LA.port_words LA.first_of LA.total_words LA.set_place LA.set_at RR.record_size RR.record_at RR.records_up_to RR.records RR.all_whole RR.record_ports RR.ports_of RR.port_count RR.port_at RR.index_of RR.name_of RR.ports_listed RN.name_at RN.same_name RN.holds_name RN.name_right RF.has_index RF.has_name RF.find_port RF.found_by_index RF.found_by_name RU.roll_right RU.port_right RU.ports_distinct RU.is_new RU.another BO.place_in BO.width_in BO.set_of SE.settings_right SE.port_clear SE.set_clear BR.family_right BR.admin_right BR.place_right BR.lists_right BR.box_right AD.is_dump AD.no_dump AD.not_permitted AD.permitted AD.admitted CM.command_in CM.command_of RP.top_policy PA.top_parts PA.header_parts TO.nests_of TO.top_of HE.flags_judged HE.parts_of HE.dump_parts_of HE.header_of PT.other_name PT.port_by_index PT.port_by_name PT.port_of TA.with_flags TA.target_of DU.done_header DU.done_message RM.reply_bytes RM.headers_bytes RM.attributes_bytes Ra.ack_bytes EX.with_set EX.with_effect EX.content_in EX.port_reply EX.get_bytes EX.port_response EX.dump_response EX.set_outcome EX.port_outcome EX.header_outcome EX.request_outcome HC.message_outcome HC.position_outcome HC.outcome HB.words_outcome HB.are_words HB.bytes_outcome ST.opening_bytes ST.compact_bytes ST.verbose_bytes ST.contents_bytes ST.set_bytes LI.bit_in LI.bits_bytes
example-run = (refl, refl, refl, refl, refl, refl, refl, refl, refl, refl, refl, refl)
