-- The whole example of name lists (specs/ExampleNames), computed from the definitions of what `ethnl_handle` answers.
--     names-run    four STRSET_GETs, one of them refused, and the end: kind, next position, bytes written and settings left, each as the example has it
use Prim.Native.Nat.{ℕ}
use mathlib.Core.Path.{◌≡◌, refl}
use mathlib.Core.List.{List, [], ◌++◌}
use Rattle.basics.specs.Numbers as NB
use Rattle.basics.specs.Scan as SC
use Rattle.basics.specs.Nuls as NU
use Rattle.basics.specs.Put as PU
use Rattle.bits.specs.Bit as Bi
use Rattle.bits.specs.Set as BS
use Rattle.word_bytes.specs.Bytes as Wb
use Rattle.entries.specs.Entry as EN
use Rattle.names.specs.Rule as NR
use Rattle.netlink_headers.specs.Messages as ME
use Rattle.netlink_attributes.specs.Attributes as AT
use Rattle.netlink.specs.Policy as PO
use Rattle.netlink.specs.Walk as WA
use Rattle.netlink_write.specs.Headers as HW
use Rattle.netlink_write.specs.Attributes as AW
use Rattle.netlink_error.specs.Error as ER
use Rattle.index_name.specs.IndexName as IN
use Rattle.layout.specs.Layout as LA
use Rattle.roll.specs.Record as RR
use Rattle.roll.specs.Name as RN
use Rattle.roll.specs.Find as RF
use Rattle.roll_rule.specs.Rule as RU
use Rattle.boxes.specs.Box as BO
use Rattle.boxes.specs.Settings as SE
use Rattle.boxes.specs.Rule as BR
use Rattle.admission.specs.Admission as AD
use Rattle.admission.specs.Commands as CM
use Rattle.request.specs.Parts as PA
use Rattle.request.specs.Header as HE
use Rattle.request.specs.Port as PT
use Rattle.request.specs.Target as TA
use Rattle.reply.specs.Message as RM
use Rattle.response.specs.Answer as Ra
use Rattle.handler.specs.Call as HC
use Rattle.handler.specs.Bytes as HB
use Rattle.response.specs.Answer.{Outcome, response_of}
use Rattle.response.specs.declared.Kind.{Kind}
use Rattle.response.specs.declared.Kind.TheVariants.{End, Done, Refused}
use Rattle.handler.specs.Bytes.{Stored, stored_of}
use Rattle.request.specs.Optional as RO
use Rattle.strset_request.specs.Top as SQ
use Rattle.strset_request.specs.Set as SS
use Rattle.strset_request.specs.List as SL
use Rattle.strset_request.specs.Asked as SA
use Rattle.strset_reply.specs.Strings as YS
use Rattle.strset_reply.specs.Sets as YE
use Rattle.strset_reply.specs.Message as YM
use Rattle.strset.specs.Strset as SR
use Rattle.refusal.specs.declared.Refusal.TheVariants.{NotOffered}
use Rattle.demands.specs.Example.{example_roll, example_debug, example_call}
use Rattle.demands.specs.ExampleNames.{two_flags, names_box, clear_settings, classes_reply, classes_ack, counts_reply, flag_names_reply, portless_error, names_datagram}

-- a call of the example at a position
abbrev handled : ℕ → Outcome Stored
handled position = HB.bytes_outcome names_box (stored_of clear_settings) (example_call position 0) names_datagram 32768

-- what is answered; the settings stay
abbrev answered : Kind → ℕ → List ℕ → Outcome Stored
answered kind next bytes = record { response = response_of kind next bytes; state = stored_of clear_settings }

pub names-run : (handled 0 ≡ answered Done 24 (classes_reply ++ classes_ack))
    × (handled 24 ≡ answered Done 100 counts_reply)
    × (handled 100 ≡ answered Done 132 flag_names_reply)
    × (handled 132 ≡ answered (Refused (NotOffered 44)) 184 portless_error)
    × (handled 184 ≡ answered End 184 [])
unfolding example_roll example_debug two_flags names_box NB.byte_at NB.u16_at NB.u32_at SC.all SC.any SC.first NU.nul_then_nul NU.same_byte PU.put PU.splice Bi.number BS.has BS.words_of BS.none_from BS.clear_from BS.some_past BS.past Wb.table Wb.words_in Wb.bytes_of EN.entry_at EN.entries_distinct EN.entry_new EN.differs EN.same_entry NR.names_right NR.right_at NR.entry_right ME.message_at AT.attribute_at AT.part_of AT.attributes_up_to AT.attributes PO.rule_of PO.nul_at PO.is_name_payload PO.plain PO.nested PO.judged WA.first_fault WA.last_of_type WA.walked WA.slot_number HW.message_header_bytes HW.generic_header_bytes HW.attribute_header_bytes AW.padding AW.attr AW.nest AW.name_bytes ER.detail_bytes ER.flags_of ER.negative ER.error_header ER.error_start ER.error_message IN.index_nest IN.index_and_name IN.name_if_any LA.list_of LA.size_of LA.every_set LA.port_words LA.first_of LA.total_words LA.set_place LA.set_at RR.record_size RR.record_at RR.records_up_to RR.records RR.all_whole RR.record_ports RR.ports_of RR.port_count RR.port_at RR.index_of RR.name_of RR.ports_listed RN.name_at RN.same_name RN.holds_name RN.name_right RF.has_index RF.has_name RF.find_port RF.found_by_index RF.found_by_name RU.roll_right RU.port_right RU.ports_distinct RU.is_new RU.another BO.place_in BO.width_in BO.set_of SE.settings_right SE.port_clear SE.set_clear BR.family_right BR.admin_right BR.place_right BR.lists_right BR.box_right AD.is_dump AD.permitted AD.admitted CM.command_in CM.command_of PA.header_parts HE.flags_judged PT.other_name PT.port_by_index PT.port_by_name PT.port_of TA.with_flags RM.headers_bytes Ra.ack_bytes HC.message_outcome HC.position_outcome HC.outcome HB.words_outcome HB.are_words HB.bytes_outcome RO.optional_header_of RO.optional_target_of SQ.strset_parts SQ.with_header SQ.strset_top_of SS.id_of SS.set_of_id SS.id_judged SS.set_reading SL.same_set SL.with_asked SL.sets_reading SL.nest_reading SL.list_reading SA.or_default SA.sets_asked SA.asked_of YS.index_and_value YS.string_bytes YS.strings_bytes YE.strings_if YE.set_contents YE.string_set YE.other_set YE.sets_bytes YM.port_nest YM.strset_attributes YM.strset_reply SR.index_in SR.name_in SR.strset_content_in SR.strset_bytes SR.content_response SR.strset_response AD.strset_permitted
names-run = (refl, refl, refl, refl, refl)
