-- The rows that a message can meet have numbers from 5 on.
--     message-late      so of every row
--     message-number    so of the first that applies
use Prim.Native.Nat.{ℕ, ◌%◌, ◌≤◌}
use mathlib.Core.List.{List, [], ◌∷◌, ◌++◌}
use mathlib.Core.Bool.{Bool, true, false, ◌||◌, cond}
use lib.Dec.{eqb, ltb}
use native.Mathlib.Omega.{arith}
use Rattle.netlink_headers.specs.declared.headers.MessageHeader.{MessageHeader}
use Rattle.basics.specs.Numbers.{byte_at}
use Rattle.netlink_attributes.specs.Attributes.{Attributes, attributes, part_of}
use Rattle.netlink_attributes.specs.Attributes.Attributes.{done, broken, attribute}
use Rattle.netlink.specs.Walk.{walked}
use Rattle.netlink.specs.declared.walk.Slot.{Slot}
use Rattle.request.specs.Policies.{header_policy}
use Rattle.request.specs.Parts.{header_parts}
use Rattle.strset_request.specs.Policies.{strset_policy, string_sets_policy}
use Rattle.strset_request.specs.Top.{strset_parts}
use Rattle.netlink.specs.declared.policy.Fault.{Fault}
use Rattle.netlink.specs.declared.policy.Fault.TheVariants as W
use Rattle.refusal.specs.Refusal.{number_of, of_fault}
use Rattle.refusal.specs.declared.Refusal.{Refusal}
use Rattle.boxes.specs.Box.{Box}
use Rattle.boxes.specs.declared.Call.{Call}
use Rattle.admission.specs.Commands.{command_of}
use Rattle.request.specs.declared.parts.TopParts.{TopParts}
use Rattle.demands.specs.Check.{Check, walks, FirstIs}
use Rattle.demands.specs.Check.Check.{passes, skips}
use Rattle.demands.specs.Bitset.{bitset_checks}
use Rattle.demands.specs.NormalChecks.{BitsetNumber}
use Rattle.demands.specs.NormalChecks.BitsetNumber.{walking, judging}
use Rattle.demands.specs.PortChecks.{named_port_checks}
use Rattle.demands.specs.Strset.{id_checks, each_set, sets_checks, strset_port_checks, strset_level_checks, strset_checks}
use Rattle.demands.specs.Request.{is_set, is_strset, skip_if, admission_checks, top_checks, port_checks, header_checks, level_checks, command_checks, message_checks}
use Rattle.demands.proofs.Rows.{Every, OfBitset, first-every, row, walk, choice, weaker, bitset-rows}
use Rattle.demands.proofs.Rows.Every.{nothing, pass, skip}
use Rattle.std.specs.Prelude.{Option}
use Rattle.admission.specs.declared.commands.Listed.{Listed}

-- a refusal of the table's later rows
abbrev pub Late : Refusal → Type 0
Late why = 5 ≤ number_of why

fault-late : (fault : Fault) (at : ℕ) → Late (of_fault fault at)
fault-late W.Length at = omega arith
fault-late W.Unknown at = omega arith
fault-late W.Payload at = omega arith

bitset-late : (s : List ℕ) (from : ℕ) (names : List ℕ) → Every Late (bitset_checks s from names)
bitset-late s from names = weaker OfBitset Late (λ why n. from-five (number_of why) n) (bitset-rows s from names)
  where
    from-five : (n : ℕ) → BitsetNumber n → 5 ≤ n
    from-five n (walking l u) = omega arith
    from-five n (judging l u) = omega arith

level-late : (box : Box) (m : List ℕ) (dump : Bool) (command : Option Listed) (parts : TopParts) → Every Late (level_checks box m dump command parts)
unfolding level_checks top_checks header_checks port_checks named_port_checks
level-late box m dump command parts =
    row Late _ _ (omega arith)
    (row Late _ _ (omega arith)
    (walk Late _ fault-late
    (row Late _ _ (omega arith)
    (row Late _ _ (omega arith)
    (row Late _ _ (omega arith)
    (row Late _ _ (omega arith) (row Late _ _ (omega arith) (row Late _ _ (omega arith) (choice Late (is_set command) _ _ (bitset-late _ _ _) nothing)))))))))

skip-late : (h : MessageHeader) {checks : List Check} → Every Late checks → Every Late (skip_if h ∷ checks)
unfolding skip_if
skip-late h {checks} rest = go (ltb h.kind 16 || eqb (h.flags % 2) 0)
  where
    go : (t : Bool) → Every Late (cond t skips passes ∷ checks)
    go true = skip rest
    go false = pass rest

sets-late : (s : List ℕ) (named : Bool) (xs : Attributes) {checks : List Check} → Every Late checks → Every Late (each_set s named xs ++ checks)
unfolding each_set id_checks
sets-late s named done rest = rest
sets-late s named (broken at) rest = rest
sets-late s named (attribute k b a e more) rest =
    walk Late _ fault-late (row Late _ _ (omega arith) (row Late _ _ (omega arith) (sets-late s named more rest)))

list-late : (m : List ℕ) (nest : Slot) (named : Bool) {checks : List Check} → Every Late checks → Every Late (sets_checks m nest named ++ checks)
unfolding sets_checks
list-late m nest named {checks} rest = go nest.present
  where
    go : (t : Bool)
        → Every Late
        (cond t
        (walks (walked string_sets_policy (part_of m 0 nest.end) nest.start).stop
        ∷ each_set (part_of m 0 nest.end) named (attributes (part_of m 0 nest.end) nest.start))
        []
        ++ checks)
    go true = walk Late _ fault-late (sets-late _ named _ rest)
    go false = rest

strset-late : (box : Box) (m : List ℕ) (h : MessageHeader) → Every Late (strset_checks box m h)
unfolding strset_checks strset_level_checks strset_port_checks named_port_checks
strset-late box m h =
    let parts = strset_parts (walked strset_policy m 20).slots in
    let header = header_parts (walked header_policy (part_of m 0 parts.header.end) parts.header.start).slots in
    walk Late _ fault-late
    (row Late _ _ (omega arith)
    (walk Late _ fault-late
    (row Late _ _ (omega arith)
    (row Late _ _ (omega arith)
    (row Late _ _ (omega arith)
    (row Late _ _ (omega arith)
    (list-late m parts.sets (header.index.present || header.name.present) (row Late _ _ (omega arith) nothing))))))))

pub message-late : (box : Box) (call : Call) (m : List ℕ) (h : MessageHeader) → Every Late (message_checks box call m h)
unfolding message_checks command_checks admission_checks
message-late box call m h =
    skip-late h
    (row Late _ _ (omega arith)
    (row Late _ _ (omega arith)
    (row Late _ _ (omega arith) (row Late _ _ (omega arith) (row Late _ _ (omega arith) (choice Late (is_strset (command_of (byte_at m 16))) _ _ (strset-late box m h) (walk Late _ fault-late (level-late box m _ _ _))))))))

pub message-number : (box : Box) (call : Call) (m : List ℕ) (h : MessageHeader) (why : Refusal)
    → FirstIs why (message_checks box call m h) → 5 ≤ number_of why
message-number box call m h why f = first-every Late why f (message-late box call m h)
