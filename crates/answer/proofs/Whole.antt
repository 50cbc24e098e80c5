-- Document 01, "Replies", and request C-11: what the program writes for the request of the whole reply, for the same request of the debug set, for a dump, and for a datagram that is too long.
use Prim.Native.Nat.{ℕ, ◌<◌}
use mathlib.Core.Path.{◌≡◌, refl, ap, ◌∙◌}
use mathlib.Core.List.{List, [], ◌∷◌}
use lib.ListN.{length, drop}
use native.Mathlib.Omega.{arith}
use borrow.Author.Tests.{lt-ltb}
use Rattle.basics.specs.Numbers.{byte_at, u16_at, u32_at}
use Rattle.basics.specs.Scan.{all, first}
use Rattle.word_bytes.specs.Bytes.{bytes_of}
use Rattle.netlink_attributes.specs.Attributes as T
use Rattle.netlink_headers.specs.Headers as H
use Rattle.netlink_headers.specs.Messages.{message_at}
use Rattle.netlink.specs.Policy as Y
use Rattle.netlink.specs.Walk as W
use Rattle.netlink_write.specs.Headers as HW
use Rattle.netlink_write.specs.Attributes as TW
use Rattle.netlink_dump.specs.Dump as D
use Rattle.index_name.specs.IndexName as IN
use Rattle.refusal.specs.declared.Refusal.TheVariants.{Datagram}
use Rattle.roll.specs.Record as P
use Rattle.roll.specs.Name as M
use Rattle.roll.specs.Find as F
use Rattle.layout.specs.Layout as L
use Rattle.boxes.specs.Box as X
use Rattle.boxes.specs.Box.{State}
use Rattle.admission.specs.Admission as Q
use Rattle.admission.specs.Commands as C
use Rattle.request.specs.Policies.{top_policy}
use Rattle.request.specs.Parts.{top_parts, header_parts}
use Rattle.request.specs.Top as O
use Rattle.request.specs.Header as HR
use Rattle.request.specs.Port as G
use Rattle.request.specs.Target as I
use Rattle.reply.proofs.Whole.{whole_reply}
use Rattle.bitset_reply.specs.Set as RS
use Rattle.reply.specs.Message as RM
use Rattle.response.specs.Answer as A
use Rattle.execute.specs.Execute as OB
use Rattle.handler.specs.Call as K
use Rattle.answer.specs.Box.{port_roll, debug_names, flag_names, first_words, program_box, first_state}
use Rattle.answer.specs.Run.{call_at, call, on_call, answers_from, answers}
use Rattle.response.specs.declared.Kind.TheVariants.{Done, End}
use Rattle.answer.proofs.Laws.{answers-step}
use Rattle.answer.proofs.Right.{box-right}

-- PRIVFLAGS_GET of port 3 with header flag 1, sequence 7, port id 9
abbrev pub request : List ℕ
request =
    0x28 ∷ 0x00 ∷ 0x00 ∷ 0x00 ∷ 0x19 ∷ 0x00 ∷ 0x01 ∷ 0x00 ∷ 0x07 ∷ 0x00 ∷ 0x00 ∷ 0x00 ∷ 0x09 ∷ 0x00 ∷ 0x00 ∷ 0x00
    ∷ 0x0D ∷ 0x01 ∷ 0x00 ∷ 0x00 ∷ 0x14 ∷ 0x00 ∷ 0x01 ∷ 0x80 ∷ 0x08 ∷ 0x00 ∷ 0x01 ∷ 0x00 ∷ 0x03 ∷ 0x00 ∷ 0x00 ∷ 0x00
    ∷ 0x08 ∷ 0x00 ∷ 0x03 ∷ 0x00 ∷ 0x01 ∷ 0x00 ∷ 0x00 ∷ 0x00 ∷ []

first-call : call request first_state 0 0 ≡ A.unchanged (A.response_of Done 40 whole_reply) first_state
unfolding call K.outcome K.position_outcome K.message_outcome OB.request_outcome OB.header_outcome OB.port_outcome OB.get_bytes OB.content_in X.set_of OB.port_reply A.ack_bytes port_roll debug_names flag_names first_words program_box first_state message_at H.message_header_at H.generic_header_at H.attribute_header_at T.attribute_at T.part_of T.attributes_up_to T.attributes Y.rule_of Y.nul_at Y.is_name_payload Y.plain Y.nested Y.judged W.first_fault W.last_of_type W.walked W.slot_number Q.is_dump Q.no_dump Q.not_permitted Q.permitted Q.admitted C.command_in C.command_of top_policy top_parts header_parts O.nests_of O.top_of HR.flags_judged HR.parts_of HR.header_of G.other_name G.port_by_index G.port_by_name G.port_of I.with_flags I.target_of F.find_port F.has_index F.found_by_index P.port_count P.ports_of P.record_ports P.port_at P.index_of P.name_of P.records P.records_up_to P.record_at P.record_size M.name_at L.list_of L.size_of L.port_words L.first_of L.total_words L.set_place L.set_at byte_at u16_at u32_at all first RM.reply_bytes RM.headers_bytes RM.attributes_bytes RS.set_bytes RS.contents_bytes RS.compact_bytes RS.opening_bytes IN.index_nest IN.index_and_name IN.name_if_any TW.name_bytes TW.nest TW.attr TW.padding HW.message_header_bytes HW.generic_header_bytes HW.attribute_header_bytes bytes_of
first-call = rw (box-right 0 0 (omega arith)) refl

last-call : call request first_state 40 0 ≡ A.unchanged (A.no_bytes End 40) first_state
unfolding call K.outcome K.position_outcome message_at
last-call = rw (box-right 40 0 (omega arith)) refl

-- the whole reply, and nothing else
pub whole_run : answers request ≡ whole_reply ∷ []
unfolding answers
whole_run =
    answers-step request first_state 0 0 ∙ ap (λ (o : A.Outcome State). on_call o (answers_from request)) first-call
    ∙ ap (λ (l : List (List ℕ)). whole_reply ∷ l)
    (answers-step request first_state 40 0 ∙ ap (λ (o : A.Outcome State). on_call o (answers_from request)) last-call)

-- DEBUG_GET of port 3 with header flag 1, sequence 7, port id 9: 40 bits, none of them set
abbrev debug_request : List ℕ
debug_request =
    0x28 ∷ 0x00 ∷ 0x00 ∷ 0x00 ∷ 0x19 ∷ 0x00 ∷ 0x01 ∷ 0x00 ∷ 0x07 ∷ 0x00 ∷ 0x00 ∷ 0x00 ∷ 0x09 ∷ 0x00 ∷ 0x00 ∷ 0x00
    ∷ 0x07 ∷ 0x01 ∷ 0x00 ∷ 0x00 ∷ 0x14 ∷ 0x00 ∷ 0x01 ∷ 0x80 ∷ 0x08 ∷ 0x00 ∷ 0x01 ∷ 0x00 ∷ 0x03 ∷ 0x00 ∷ 0x00 ∷ 0x00
    ∷ 0x08 ∷ 0x00 ∷ 0x03 ∷ 0x00 ∷ 0x01 ∷ 0x00 ∷ 0x00 ∷ 0x00 ∷ []

abbrev debug_reply : List ℕ
debug_reply =
    0x44 ∷ 0x00 ∷ 0x00 ∷ 0x00 ∷ 0x19 ∷ 0x00 ∷ 0x00 ∷ 0x00 ∷ 0x07 ∷ 0x00 ∷ 0x00 ∷ 0x00 ∷ 0x09 ∷ 0x00 ∷ 0x00 ∷ 0x00
    ∷ 0x07 ∷ 0x01 ∷ 0x00 ∷ 0x00 ∷ 0x14 ∷ 0x00 ∷ 0x01 ∷ 0x80 ∷ 0x08 ∷ 0x00 ∷ 0x01 ∷ 0x00 ∷ 0x03 ∷ 0x00 ∷ 0x00 ∷ 0x00
    ∷ 0x08 ∷ 0x00 ∷ 0x02 ∷ 0x00 ∷ 0x73 ∷ 0x77 ∷ 0x30 ∷ 0x00 ∷ 0x1C ∷ 0x00 ∷ 0x02 ∷ 0x80 ∷ 0x04 ∷ 0x00 ∷ 0x01 ∷ 0x00
    ∷ 0x08 ∷ 0x00 ∷ 0x02 ∷ 0x00 ∷ 0x28 ∷ 0x00 ∷ 0x00 ∷ 0x00 ∷ 0x0C ∷ 0x00 ∷ 0x04 ∷ 0x00 ∷ 0x00 ∷ 0x00 ∷ 0x00 ∷ 0x00
    ∷ 0x00 ∷ 0x00 ∷ 0x00 ∷ 0x00 ∷ []

debug-call : call debug_request first_state 0 0 ≡ A.unchanged (A.response_of Done 40 debug_reply) first_state
unfolding call K.outcome K.position_outcome K.message_outcome OB.request_outcome OB.header_outcome OB.port_outcome OB.get_bytes OB.content_in X.set_of OB.port_reply A.ack_bytes port_roll debug_names flag_names first_words program_box first_state message_at H.message_header_at H.generic_header_at H.attribute_header_at T.attribute_at T.part_of T.attributes_up_to T.attributes Y.rule_of Y.nul_at Y.is_name_payload Y.plain Y.nested Y.judged W.first_fault W.last_of_type W.walked W.slot_number Q.is_dump Q.no_dump Q.not_permitted Q.permitted Q.admitted C.command_in C.command_of top_policy top_parts header_parts O.nests_of O.top_of HR.flags_judged HR.parts_of HR.header_of G.other_name G.port_by_index G.port_by_name G.port_of I.with_flags I.target_of F.find_port F.has_index F.found_by_index P.port_count P.ports_of P.record_ports P.port_at P.index_of P.name_of P.records P.records_up_to P.record_at P.record_size M.name_at L.list_of L.size_of L.port_words L.first_of L.total_words L.set_place L.set_at byte_at u16_at u32_at all first RM.reply_bytes RM.headers_bytes RM.attributes_bytes RS.set_bytes RS.contents_bytes RS.compact_bytes RS.opening_bytes IN.index_nest IN.index_and_name IN.name_if_any TW.name_bytes TW.nest TW.attr TW.padding HW.message_header_bytes HW.generic_header_bytes HW.attribute_header_bytes bytes_of
debug-call = rw (box-right 0 0 (omega arith)) refl

debug-last : call debug_request first_state 40 0 ≡ A.unchanged (A.no_bytes End 40) first_state
unfolding call K.outcome K.position_outcome message_at
debug-last = rw (box-right 40 0 (omega arith)) refl

-- the debug set, and nothing else
pub debug-run : answers debug_request ≡ debug_reply ∷ []
unfolding answers
debug-run =
    answers-step debug_request first_state 0 0 ∙ ap (λ (o : A.Outcome State). on_call o (answers_from debug_request)) debug-call
    ∙ ap (λ (l : List (List ℕ)). debug_reply ∷ l)
    (answers-step debug_request first_state 40 0 ∙ ap (λ (o : A.Outcome State). on_call o (answers_from debug_request)) debug-last)

-- PRIVFLAGS_GET of all ports with header flag 1, sequence 7, port id 9: REQUEST and both DUMP bits, a header nest without a port
abbrev dump_request : List ℕ
dump_request =
    0x20 ∷ 0x00 ∷ 0x00 ∷ 0x00 ∷ 0x19 ∷ 0x00 ∷ 0x01 ∷ 0x03 ∷ 0x07 ∷ 0x00 ∷ 0x00 ∷ 0x00 ∷ 0x09 ∷ 0x00 ∷ 0x00 ∷ 0x00
    ∷ 0x0D ∷ 0x01 ∷ 0x00 ∷ 0x00 ∷ 0x0C ∷ 0x00 ∷ 0x01 ∷ 0x80 ∷ 0x08 ∷ 0x00 ∷ 0x03 ∷ 0x00 ∷ 0x01 ∷ 0x00 ∷ 0x00 ∷ 0x00 ∷ []

-- the whole reply "with the MULTI flag (2)"
abbrev multi_reply : List ℕ
multi_reply = 0x44 ∷ 0x00 ∷ 0x00 ∷ 0x00 ∷ 0x19 ∷ 0x00 ∷ 0x02 ∷ 0x00 ∷ drop 8 whole_reply

-- "a DONE message (type 3, MULTI, sequence and port id echoed, a 32-bit 0 after the header, 20 bytes)"
abbrev done_reply : List ℕ
done_reply =
    0x14 ∷ 0x00 ∷ 0x00 ∷ 0x00 ∷ 0x03 ∷ 0x00 ∷ 0x02 ∷ 0x00 ∷ 0x07 ∷ 0x00 ∷ 0x00 ∷ 0x00 ∷ 0x09 ∷ 0x00 ∷ 0x00 ∷ 0x00
    ∷ 0x00 ∷ 0x00 ∷ 0x00 ∷ 0x00 ∷ []

dump-port : call dump_request first_state 0 0 ≡ A.unchanged (record { kind = Done; next = 0; place = 1; bytes = multi_reply }) first_state
unfolding call K.outcome K.position_outcome K.message_outcome OB.request_outcome OB.header_outcome OB.dump_response OB.port_response OB.port_reply OB.content_in X.set_of port_roll debug_names flag_names first_words program_box first_state message_at H.message_header_at H.generic_header_at H.attribute_header_at T.attribute_at T.part_of T.attributes_up_to T.attributes Y.rule_of Y.nul_at Y.is_name_payload Y.plain Y.nested Y.judged W.first_fault W.last_of_type W.walked W.slot_number Q.is_dump Q.no_dump Q.not_permitted Q.permitted Q.admitted C.command_in C.command_of top_policy top_parts header_parts O.nests_of O.top_of HR.flags_judged HR.dump_parts_of HR.header_of I.target_of P.port_count P.ports_of P.record_ports P.port_at P.index_of P.name_of P.records P.records_up_to P.record_at P.record_size M.name_at L.list_of L.size_of L.port_words L.first_of L.total_words L.set_place L.set_at byte_at u16_at u32_at all first RM.reply_bytes RM.headers_bytes RM.attributes_bytes RS.set_bytes RS.contents_bytes RS.compact_bytes RS.opening_bytes IN.index_nest IN.index_and_name IN.name_if_any TW.name_bytes TW.nest TW.attr TW.padding HW.message_header_bytes HW.generic_header_bytes HW.attribute_header_bytes bytes_of
dump-port = rw (box-right 0 0 (omega arith)) refl

dump-done : call dump_request first_state 0 1 ≡ A.unchanged (A.response_of Done 32 done_reply) first_state
unfolding call K.outcome K.position_outcome K.message_outcome OB.request_outcome OB.header_outcome OB.dump_response D.done_header D.done_message port_roll program_box message_at H.message_header_at H.generic_header_at H.attribute_header_at T.attribute_at T.part_of T.attributes_up_to T.attributes Y.rule_of Y.plain Y.nested Y.judged W.first_fault W.last_of_type W.walked W.slot_number Q.is_dump Q.no_dump Q.not_permitted Q.permitted Q.admitted C.command_in C.command_of top_policy top_parts header_parts O.nests_of O.top_of HR.flags_judged HR.dump_parts_of HR.header_of I.target_of P.port_count P.ports_of P.record_ports P.records P.records_up_to P.record_at P.record_size byte_at u16_at u32_at all first HW.message_header_bytes
dump-done = rw (box-right 0 1 (omega arith)) refl

dump-last : call dump_request first_state 32 0 ≡ A.unchanged (A.no_bytes End 32) first_state
unfolding call K.outcome K.position_outcome message_at
dump-last = rw (box-right 32 0 (omega arith)) refl

-- request C-11, all places of a dump: the reply of the one port, DONE, and nothing else
pub dump-run : answers dump_request ≡ multi_reply ∷ done_reply ∷ []
unfolding answers
dump-run =
    answers-step dump_request first_state 0 0 ∙ ap (λ (o : A.Outcome State). on_call o (answers_from dump_request)) dump-port
    ∙ ap (λ (l : List (List ℕ)). multi_reply ∷ l)
    (answers-step dump_request first_state 0 1 ∙ ap (λ (o : A.Outcome State). on_call o (answers_from dump_request)) dump-done
    ∙ ap (λ (l : List (List ℕ)). done_reply ∷ l)
    (answers-step dump_request first_state 32 0 ∙ ap (λ (o : A.Outcome State). on_call o (answers_from dump_request)) dump-last))

long-stops : (d : List ℕ) → 32768 < length d → call d first_state 0 0 ≡ K.refused_in_place Datagram (call_at 0 0) first_state
unfolding call K.outcome
long-stops d h = rw (box-right 0 0 (omega arith), lt-ltb _ _ h) refl

-- more than 32,768 bytes: nothing is written
pub too_long : (d : List ℕ) → 32768 < length d → answers d ≡ []
unfolding answers
too_long d h = answers-step d first_state 0 0 ∙ ap (λ (o : A.Outcome State). on_call o (answers_from d)) (long-stops d h)
