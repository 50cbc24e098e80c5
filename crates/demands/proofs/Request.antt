-- What a message's definitions tell is its first check that does not pass: skipping and 5 to 9, the top level, the header level, the bitset.
use Prim.Native.Nat.{ℕ, ◌-◌, ◌/◌, ◌%◌}
use mathlib.Core.Path.{◌≡◌, refl, ◌∙◌}
use mathlib.Core.List.{List, [], ◌∷◌, ◌++◌}
use mathlib.Core.Bool.{Bool, true, false, ◌&&◌, ◌||◌, not, cond}
use lib.ListN.{length}
use lib.Dec.{eqb, ltb}
use native.Mathlib.Omega.{arith}
use borrow.Author.Tests.{not-false}
use Rattle.basics.proofs.Truth.{clash}
use Rattle.basics.specs.Numbers.{byte_at}
use Rattle.netlink_attributes.specs.Attributes.{part_of}
use Rattle.netlink.specs.Walk.{walked, slot_number}
use Rattle.netlink_headers.specs.declared.headers.MessageHeader.{MessageHeader}
use Rattle.netlink.specs.declared.walk.Slot.{Slot}
use Rattle.refusal.specs.declared.Refusal.{Refusal}
use Rattle.refusal.specs.declared.Refusal.TheVariants as R
use Rattle.bitset_form.specs.Bitset.{Reading}
use Rattle.bitset_form.specs.Bitset.Reading.{refused, accepted}
use Rattle.bitset.specs.Judge.{bitset_reading}
use Rattle.roll.specs.Find.{found_by_index, found_by_name}
use Rattle.layout.specs.Layout.{list_of}
use Rattle.boxes.specs.Box.{Box, State, ports_in}
use Rattle.boxes.specs.declared.Call.{Call}
use Rattle.layout.specs.declared.Set.{Set}
use Rattle.layout.specs.declared.Set.TheVariants.{Debug, Flags}
use Rattle.admission.specs.Admission.{is_dump, no_dump, not_permitted, permitted, strset_permitted, on_command, admitted}
use Rattle.request.specs.Target.{with_flags, target_of}
use Rattle.admission.specs.Commands.{command_row, command_in, command_of}
use Rattle.request.specs.Header.{flags_judged, parts_of, dump_parts_of, header_of}
use Rattle.request.specs.Policies.{top_policy, header_policy}
use Rattle.request.specs.Parts.{top_parts, header_parts}
use Rattle.request.specs.declared.parts.HeaderParts.{HeaderParts}
use Rattle.request.specs.declared.parts.TopParts.{TopParts}
use Rattle.request.specs.Port.{port_by_index, port_by_name, port_of}
use Rattle.refusal.specs.Refusal.{on_stop}
use Rattle.request.specs.Top.{nests_of, top_of}
use Rattle.admission.specs.declared.commands.Command.{Command}
use Rattle.netlink_dump.specs.Dump.{done_message}
use Rattle.response.specs.Answer.{Outcome, response_of, unchanged}
use Rattle.request.specs.declared.target.Target.{Target}
use Rattle.execute.specs.declared.Request.{Request}
use Rattle.execute.specs.Execute.{request_of, get_bytes, port_response, dump_response, reading_outcome, set_outcome, port_outcome, target_outcome, header_outcome, top_outcome, request_outcome}
use Rattle.handler.specs.Call.{on_admission, message_outcome}
use Rattle.response.specs.declared.Kind.{Kind}
use Rattle.response.specs.declared.Kind.TheVariants.{Done}
use Rattle.demands.specs.Check.{Check, refuse_if, walk_checks, first_kind}
use Rattle.demands.specs.Check.Check.{skips}
use Rattle.demands.specs.Bitset.{bitset_checks}
use Rattle.demands.specs.PortChecks.{no_port, named_otherwise, named_port_checks}
use Rattle.demands.specs.Strset.{strset_checks}
use Rattle.demands.specs.Request.{unlisted, is_set, is_strset, set_in, skip_if, asks_dump, admission_checks, top_checks, port_checks, header_checks, level_checks, command_checks, message_checks}
use Rattle.demands.proofs.First.{step, stop_step, passed-step, walk_step, pass, fault, skip, no_more}
use Rattle.demands.proofs.Bitset.{kind_of, bitset-first}
use Rattle.demands.proofs.PortRows.{target_first}
use Rattle.demands.proofs.Strset.{strset-first}
use Rattle.std.specs.Prelude.{Option, Some, None, Result, Ok, Err}
use Rattle.request.specs.declared.header.Header.{Header}
use Rattle.request.specs.declared.target.Addressee.{Addressee}
use Rattle.admission.specs.declared.commands.Listed.{Listed}
use Rattle.admission.specs.declared.Admission.{Admission}
use Rattle.admission.specs.declared.Admission.TheVariants as A
use Rattle.admission.specs.declared.commands.Listed.TheVariants.{OfSet, Strset}
use Rattle.request.specs.declared.target.Addressee.TheVariants as G
use Rattle.basics.specs.Results.{and_then}

abbrev pub kind : Outcome State → Kind
kind o = o.response.kind

-- a listed command is a SET exactly where it may not be dumped
pub listed-dump : (n : ℕ) (command : Command) → command_of n ≡ Some (OfSet command) → not command.dump ≡ command.change
unfolding command_of command_in
listed-dump n command = go (eqb 1 n) (eqb 7 n) (eqb 8 n) (eqb 13 n) (eqb 14 n)
  where
    by : (x : Command) → not x.dump ≡ x.change → Some (OfSet x) ≡ Some (OfSet command) → not command.dump ≡ command.change
    by x q e = let same : x ≡ command = cc in rw same at q

    go : (z a b c d : Bool)
        → cond z (Some Strset) (cond a (Some (OfSet (command_row 7 false Debug 7 true)))
        (cond b (Some (OfSet (command_row 8 true Debug 7 false)))
        (cond c (Some (OfSet (command_row 13 false Flags 14 true))) (cond d (Some (OfSet (command_row 14 true Flags 14 false))) None))))
        ≡ Some (OfSet command)
        → not command.dump ≡ command.change
    go true a b c d e = absurd (let z : ◌≡◌ {A = ℕ} 0 1 = cc in omega arith)
    go false true b c d e = by (command_row 7 false Debug 7 true) refl e
    go false false true c d e = by (command_row 8 true Debug 7 false) refl e
    go false false false true d e = by (command_row 13 false Flags 14 true) refl e
    go false false false false true e = by (command_row 14 true Flags 14 false) refl e
    go false false false false false e = absurd (let z : ◌≡◌ {A = ℕ} 0 1 = cc in omega arith)

or-false : (b : Bool) → b || false ≡ b
or-false true = refl
or-false false = refl

and-true : (b : Bool) → b && true ≡ b
and-true true = refl
and-true false = refl

-- what is not both
pub not-both : (a b : Bool) → a && b ≡ false → a ≡ true → b ≡ false
not-both true b e h = e
not-both false b e h = absurd (clash h refl)

-- a message of a dump is done, be it a port's reply or DONE
pub dump-kind : (box : Box) (state : State) (request : Request) (flags : ℕ) → (dump_response box state request flags).kind ≡ Done
unfolding dump_response port_response
dump-kind box state request flags = go (ltb request.place (ports_in box))
  where
    go : (t : Bool) → (cond t (port_response box state request flags) (response_of Done request.next (done_message request.header))).kind ≡ Done
    go true = refl
    go false = refl

module _ (box : Box) (state : State) (call : Call) (m : List ℕ) (h : MessageHeader) (next : ℕ) where
  reading-kind : (r : Reading) (request : Request) (position : ℕ) → kind (reading_outcome r box state m request position) ≡ kind_of r
  reading-kind (refused why) request position = refl
  reading-kind (accepted b) request position = refl

  -- the checks after the header level: in a SET those of the bitset
  abbrev after : Bool → Set → Slot → List Check
  after change set bitset = cond change (bitset_checks (part_of m 0 bitset.end) bitset.start (list_of box.names set)) []

  module _ (command : Command) (bitset : Slot) where
    abbrev request : Request
    request = request_of call h next command

    set_first : (position : ℕ)
        → kind (set_outcome box state m request bitset position)
        ≡ first_kind Done (bitset_checks (part_of m 0 bitset.end) bitset.start (list_of box.names command.set))
    unfolding set_outcome
    set_first position =
        let s = part_of m 0 bitset.end in
        let names = list_of box.names command.set in
        reading-kind (bitset_reading s bitset.start names) request position ∙ bitset-first s bitset.start names

    port-outcome-first : (target : Target) → kind (port_outcome box state m request bitset target) ≡ first_kind Done (after command.change command.set bitset)
    unfolding port_outcome
    port-outcome-first target = go command.change (unchanged (response_of Done next (get_bytes box state m request target)) state) refl
      where
        go : (t : Bool) (got : Outcome State) → kind got ≡ Done
            → kind (cond t (set_outcome box state m request bitset target.position) got) ≡ first_kind Done (after t command.set bitset)
        go true got e = set_first target.position
        go false got e = e ∙ no_more Done

    abbrev rest : List Check
    rest = after command.change command.set bitset

    -- 16 and 17
    module _ (header : Slot) (parts : HeaderParts) (flags : ℕ) where
      targeted : Result ℕ Refusal → Kind
      targeted port = kind (target_outcome (with_flags port flags) box state m request (port_outcome box state m request bitset))

      port-rows : (t n : Bool) → t || n ≡ true
          → kind (target_outcome (with_flags (cond t (port_by_index m header parts box.roll) (port_by_name m parts.name box.roll)) flags) box state m request (port_outcome box state m request bitset))
          ≡ first_kind Done
          (refuse_if (t && no_port (found_by_index box.roll (slot_number m parts.index))) (R.UnknownPort (parts.index.start - 4))
          ∷ refuse_if (not t && (n && no_port (found_by_name box.roll (part_of m parts.name.start parts.name.end)))) (R.UnknownPort (parts.name.start - 4))
          ∷ refuse_if (t && named_otherwise m parts.name box.roll (found_by_index box.roll (slot_number m parts.index))) (R.OtherName (header.start - 4))
          ∷ rest)
      unfolding targeted with_flags
      port-rows t n e =
          target_first m box.roll header parts Done targeted rest (λ why. refl) (λ p. port-outcome-first (record { position = p; flags = flags })) t n e

  -- the header level of a request that is no dump
  module _ (command : Command) (top : TopParts) where
    abbrev targets : Result Addressee Refusal → Outcome State
    targets target = target_outcome target box state m (request_of call h next command) (port_outcome box state m (request_of call h next command) top.bitset)

    abbrev below : Bool → List Check
    below dump = header_checks m box.roll dump top.header ++ after command.change command.set top.bitset

    one-first : kind (targets (target_of m top.header false box.roll)) ≡ first_kind Done (below false)
    unfolding target_of header_of parts_of flags_judged port_of header_checks port_checks named_port_checks
    one-first =
        let nest = walked header_policy (part_of m 0 top.header.end) top.header.start in
        let parts = header_parts nest.slots in
        let given = parts.index.present || parts.name.present in
        walk_step headed Done nest.stop (λ stop. on_stop stop Err (parts_of m (top.header.start - 4) parts)) _
        (λ fault at. refl)
        (pass Done _ _ _
        (passed-step headed Done (not given) _ _ _ _ refl
        (λ e. step headed Done _ _ _ _ _ refl
        (port-rows command top.bitset top.header parts (slot_number m parts.flags) parts.index.present parts.name.present (not-false given e)))))
      where
        headed : Result Header Refusal → Kind
        headed hd = kind (targets (and_then hd (λ x. with_flags (port_of m top.header x.parts box.roll) x.flags)))

    -- and of a dump, which is of a GET
    no_rows : (change index name x y z : Bool) (a b c : Refusal) → change ≡ false → index || name ≡ false
        → Done ≡ first_kind Done (refuse_if (index && x) a ∷ refuse_if (not index && (name && y)) b ∷ refuse_if (index && z) c ∷ after change command.set top.bitset)
    no_rows true index name x y z a b c get none = absurd (clash refl get)
    no_rows false true name x y z a b c get none = absurd (clash refl none)
    no_rows false false true x y z a b c get none = absurd (clash refl none)
    no_rows false false false x y z a b c get none = pass Done _ _ _ (pass Done _ _ _ (pass Done _ _ _ (no_more Done)))

    dump-first : command.change ≡ false → kind (targets (target_of m top.header true box.roll)) ≡ first_kind Done (below true)
    unfolding target_of header_of dump_parts_of flags_judged header_checks port_checks named_port_checks
    dump-first get =
        let nest = walked header_policy (part_of m 0 top.header.end) top.header.start in
        let parts = header_parts nest.slots in
        let given = parts.index.present || parts.name.present in
        walk_step headed Done nest.stop (λ stop. on_stop stop Err (dump_parts_of m parts)) _
        (λ fault at. refl)
        (passed-step headed Done given _ _ _ _ refl
        (λ none. pass Done _ _ _
        (step headed Done _ _ _ _ _ refl
        (dump-kind box state (request_of call h next command) (slot_number m parts.flags)
        ∙ no_rows command.change parts.index.present parts.name.present _ _ _ _ _ _ get none))))
      where
        headed : Result Header Refusal → Kind
        headed hd = kind (targets (and_then hd (λ x. Ok (G.Unnamed x.flags))))

    header-first : (is_dump h ≡ true → command.change ≡ false) → kind (header_outcome box state m (request_of call h next command) top) ≡ first_kind Done (below (asks_dump h))
    unfolding header_outcome is_dump asks_dump
    header-first get = go (eqb (h.flags / 256 % 4) 3) get
      where
        go : (d : Bool) → (d ≡ true → command.change ≡ false) → kind (targets (target_of m top.header d box.roll)) ≡ first_kind Done (below d)
        go true get = dump-first (get refl)
        go false get = one-first

  -- the top level
  abbrev levels : Option Listed → List Check
  levels command = cond (is_strset command) (strset_checks box m h) (walk_checks (walked (top_policy (is_set command)) m 20) (λ slots. level_checks box m (asks_dump h) command (top_parts slots)))

  level-first : (command : Command) → (is_dump h ≡ true → command.change ≡ false)
      → kind (request_outcome box state m (request_of call h next command)) ≡ first_kind Done (levels (Some (OfSet command)))
  unfolding request_outcome top_of nests_of level_checks top_checks is_set is_strset set_in
  level-first command get =
      let top = walked (top_policy command.change) m 20 in
      walk_step topped Done top.stop (λ stop. on_stop stop Err (nests_of command.change (top_parts top.slots))) _
      (λ fault at. refl)
      (step topped Done _ _ _ _ _ refl (step topped Done _ _ _ _ _ refl (header-first command (top_parts top.slots) get)))
    where
      topped : Result TopParts Refusal → Kind
      topped top = kind (top_outcome top state m (request_of call h next command) (header_outcome box state m (request_of call h next command)))

  -- skipped, and 5 to 9
  abbrev admission : Result Admission Refusal → Kind
  admission a = kind (on_admission a box state call m h next)

  permitted-first : (command : Command) → not command.dump ≡ command.change
      → admission (permitted h (eqb call.admin 1) command)
      ≡ first_kind Done
      (refuse_if (asks_dump h && (command.change || false)) R.Dump
      ∷ refuse_if (command.change && not (eqb call.admin 1)) R.Permission
      ∷ levels (Some (OfSet command)))
  unfolding permitted no_dump not_permitted asks_dump is_dump
  permitted-first command set =
      rw (set, or-false command.change)
      (passed-step admission Done (is_dump h && command.change) _ _ _ _ refl
      (λ e. step admission Done _ _ _ _ _ refl (level-first command (not-both (is_dump h) command.change e))))

  -- STRSET_GET
  strset-kind : admission (strset_permitted h) ≡ first_kind Done (refuse_if (asks_dump h && true) R.Dump ∷ refuse_if false R.Permission ∷ strset_checks box m h)
  unfolding strset_permitted asks_dump is_dump
  strset-kind =
      rw (and-true (eqb (h.flags / 256 % 4) 3))
      (step admission Done (eqb (h.flags / 256 % 4) 3) R.Dump (Err R.Dump) (Ok A.Strset) _ refl (pass Done _ _ _ (strset-first box m h next)))

  command-first : (c : Option Listed) → command_of (byte_at m 16) ≡ c
      → admission (on_command c (strset_permitted h) (permitted h (eqb call.admin 1)))
      ≡ first_kind Done
      (refuse_if (unlisted c) R.Command
      ∷ refuse_if (asks_dump h && (is_set c || is_strset c)) R.Dump
      ∷ refuse_if (is_set c && not (eqb call.admin 1)) R.Permission
      ∷ levels c)
  unfolding unlisted is_set is_strset
  command-first None listed = fault Done _ _
  command-first (Some Strset) listed = pass Done _ _ _ strset-kind
  command-first (Some (OfSet command)) listed = pass Done _ _ _ (permitted-first command (listed-dump (byte_at m 16) command listed))

  admitted-first : admission (admitted m h call.family (eqb call.admin 1)) ≡ first_kind Done (command_checks box call m h (command_of (byte_at m 16)))
  unfolding admitted command_checks admission_checks skip_if
  admitted-first =
      let skipped = ltb h.kind 16 || eqb (h.flags % 2) 0 in
      let other = not (eqb h.kind call.family) in
      let short = ltb (length m) 20 in
      let rest = on_command (command_of (byte_at m 16)) (strset_permitted h) (permitted h (eqb call.admin 1)) in
      stop_step admission Done skipped skips (Ok A.Skipped) (cond other (Err R.Family) (cond short (Err R.Short) rest)) _ (skip Done _)
      (step admission Done other R.Family (Err R.Family) (cond short (Err R.Short) rest) _ refl
      (step admission Done short R.Short (Err R.Short) rest _ refl (command-first (command_of (byte_at m 16)) refl)))

  pub message-first : kind (message_outcome box state call m h next) ≡ first_kind Done (message_checks box call m h)
  unfolding message_outcome message_checks
  message-first = admitted-first
