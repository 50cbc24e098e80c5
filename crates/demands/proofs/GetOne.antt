-- The GET of one port by index that `get_one` makes: it is read as what it says, and every check passes.
--     one-read         its header nest is read as the index and the flags
--     names-one        so what it is found to name is the command, the flags and the port of the index
--     one_passes       over a right box, which has a port with the index, every check passes
use Prim.Native.Nat.{ℕ, ◌+◌, ◌%◌, ◌≤◌, ◌<◌}
use mathlib.Core.Path.{◌≡◌, refl, sym, ap, ◌∙◌}
use mathlib.Core.List.{List, [], ◌∷◌, ◌++◌}
use mathlib.Core.Bool.{Bool, true, false, ◌||◌, not}
use lib.ListN.{length}
use lib.Dec.{eqb, ltb}
use native.Mathlib.Omega.{arith}
use borrow.Author.Tests.{le-ltb, eq-eqb}
use Rattle.basics.specs.Numbers as NB
use Rattle.basics.specs.Numbers.{byte_at, u16_at, u32_at}
use Rattle.basics.proofs.Numbers.{digits16, digits32}
use Rattle.netlink_headers.specs.Headers.{message_header}
use Rattle.netlink_headers.specs.declared.headers.MessageHeader.{MessageHeader}
use Rattle.netlink_attributes.specs.Attributes as AT
use Rattle.netlink_attributes.specs.Attributes.{part_of}
use Rattle.netlink.specs.Policy as PO
use Rattle.netlink.specs.Walk as WA
use Rattle.netlink.specs.Walk.{found, absent, walked, slot_number}
use Rattle.netlink.specs.declared.walk.Stop.{Stop}
use Rattle.netlink.specs.declared.walk.Stop.TheVariants.{Whole}
use Rattle.refusal.specs.declared.Refusal.{Refusal}
use Rattle.roll.specs.Record.{port_at}
use Rattle.roll.specs.Find.{found_by_index}
use Rattle.boxes.specs.Box.{Box}
use Rattle.boxes.specs.declared.Call.{Call}
use Rattle.layout.specs.declared.Set.{Set}
use Rattle.admission.specs.Commands.{command_row, command_of}
use Rattle.admission.specs.declared.commands.Command.{Command}
use Rattle.request.specs.Policies as RP
use Rattle.request.specs.Policies.{top_policy, header_policy}
use Rattle.request.specs.Parts.{top_parts, header_parts}
use Rattle.request.specs.Top.{nests_of, top_of}
use Rattle.request.specs.Header.{flags_judged, parts_of, header_of}
use Rattle.request.specs.declared.parts.TopParts.{TopParts}
use Rattle.request.specs.declared.parts.HeaderParts.{HeaderParts}
use Rattle.response.specs.declared.Kind.TheVariants.{Done}
use Rattle.demands.specs.Check.{Check, refuse_if, walks, first_kind}
use Rattle.demands.specs.Check.Check.{passes}
use Rattle.demands.specs.PortChecks.{no_port, named_otherwise, named_port_checks}
use Rattle.demands.specs.Request.{unlisted, is_set, is_strset, set_in, skip_if, asks_dump, admission_checks, top_checks, port_checks, header_checks, level_checks, command_checks, message_checks}
use Rattle.demands.specs.Answer.{ack_if_asked}
use Rattle.demands.specs.Message.{Named}
use Rattle.demands.specs.Call.{message_of, end_if, call_checks}
use Rattle.demands.specs.Dump.{get_one}
use Rattle.demands.proofs.First.{pass, no_more}
use Rattle.std.specs.Prelude.{Option, Some, None, Ok}
use Rattle.admission.specs.declared.commands.Listed.TheVariants.{OfSet}
use Rattle.request.specs.declared.header.Header.{Header}

-- a check that passes, and what comes after it
row : (t : Bool) (why : Refusal) (checks : List Check) → t ≡ false → Done ≡ first_kind Done checks → Done ≡ first_kind Done (refuse_if t why ∷ checks)
row t why checks e d = rw e (pass Done why checks Done d)

whole_row : (s : Stop) (checks : List Check) → s ≡ Whole → Done ≡ first_kind Done checks → Done ≡ first_kind Done (walks s ∷ checks)
unfolding walks first_kind
whole_row s checks e d = rw e d

passes-row : (c : Check) (checks : List Check) → c ≡ passes → Done ≡ first_kind Done checks → Done ≡ first_kind Done (c ∷ checks)
unfolding first_kind
passes-row c checks e d = rw e d

module _ (h : MessageHeader) (command index flags : ℕ) where
  abbrev g : List ℕ
  g = get_one h command index flags

  -- its parts
  message-is : message_of g 0 ≡ g
  unfolding message_of get_one part_of u32_at
  message-is = refl

  top-walk : walked (top_policy false) g 20 ≡ record { stop = Whole; slots = absent ∷ found 24 40 ∷ absent ∷ absent ∷ absent ∷ absent ∷ absent ∷ absent ∷ [] }
  unfolding get_one NB.byte_at NB.u16_at NB.u32_at AT.attribute_at AT.part_of AT.attributes_up_to AT.attributes PO.rule_of PO.nul_at PO.is_name_payload PO.plain PO.nested PO.judged WA.first_fault WA.last_of_type WA.walked RP.top_policy
  top-walk = refl

  header-walk : walked header_policy (part_of g 0 40) 24 ≡ record { stop = Whole; slots = absent ∷ found 28 32 ∷ absent ∷ found 36 40 ∷ absent ∷ absent ∷ absent ∷ absent ∷ [] }
  unfolding get_one NB.byte_at NB.u16_at NB.u32_at AT.attribute_at AT.part_of AT.attributes_up_to AT.attributes PO.rule_of PO.nul_at PO.is_name_payload PO.plain PO.nested PO.judged WA.first_fault WA.last_of_type WA.walked
  header-walk = refl

  index_is : index < 4294967296 → slot_number g (found 28 32) ≡ index
  unfolding get_one slot_number part_of u32_at
  index_is l = digits32 index l

  flags-are : flags < 4294967296 → slot_number g (found 36 40) ≡ flags
  unfolding get_one slot_number part_of u32_at
  flags-are l = digits32 flags l

  pub kind-is : h.kind < 65536 → (message_header g 0).kind ≡ h.kind
  unfolding get_one u16_at
  kind-is l = digits16 h.kind l

  pub sequence-is : h.sequence < 4294967296 → (message_header g 0).sequence ≡ h.sequence
  unfolding get_one u32_at
  sequence-is l = digits32 h.sequence l

  pub port-is : h.port < 4294967296 → (message_header g 0).port ≡ h.port
  unfolding get_one u32_at
  port-is l = digits32 h.port l

  pub asks-one : asks_dump (message_header g 0) ≡ false
  unfolding get_one u16_at asks_dump
  asks-one = refl

  -- its lengths
  is-long : ltb (length g) 20 ≡ false
  unfolding get_one
  is-long = refl

  is-short : ltb 32768 (length g) ≡ false
  unfolding get_one
  is-short = refl

  inside : ltb (length g) 0 ≡ false
  unfolding get_one
  inside = refl

  not_end : end_if g 0 ≡ passes
  unfolding get_one end_if
  not_end = refl

  whole : ltb (length g) 16 ≡ false
  unfolding get_one
  whole = refl

  stated : ltb (u32_at g 0) 16 || ltb (length g) (0 + u32_at g 0) ≡ false
  unfolding get_one u32_at
  stated = refl

  command-is : byte_at g 16 ≡ command
  unfolding get_one byte_at
  command-is = refl

  odd : eqb ((message_header g 0).flags % 2) 0 ≡ false
  unfolding get_one u16_at
  odd = refl

  skips-not : 16 ≤ h.kind → h.kind < 65536 → skip_if (message_header g 0) ≡ passes
  unfolding skip_if
  skips-not low high = rw (kind-is high, le-ltb h.kind 16 low, odd)

  -- it is read as what it says
  pub one-top : top_of g false ≡ Ok (record { header = found 24 40; bitset = absent })
  unfolding top_of nests_of top_parts
  one-top = rw top-walk

  pub one-read : flags ≤ 3 → header_of g (found 24 40) false ≡ Ok (record { parts = record { index = found 28 32; name = absent; flags = found 36 40 }; flags = flags })
  unfolding header_of parts_of flags_judged header_parts
  one-read few = rw (header-walk, flags-are (omega arith), le-ltb 3 flags few)

  pub one-get : (c : Command) → command_of command ≡ Some (OfSet c) → c.change ≡ false → is_set (command_of (byte_at (message_of g 0) 16)) ≡ false
  unfolding is_set
  one-get c listed get = ap (λ (s : List ℕ). is_set (command_of (byte_at s 16))) message-is ∙ ap (λ (x : ℕ). is_set (command_of x)) command-is ∙ ap is_set listed ∙ get

  pub one-about-port : (c : Command) → command_of command ≡ Some (OfSet c) → is_strset (command_of (byte_at (message_of g 0) 16)) ≡ false
  unfolding is_strset
  one-about-port c listed = ap (λ (s : List ℕ). is_strset (command_of (byte_at s 16))) message-is ∙ ap (λ (x : ℕ). is_strset (command_of x)) command-is ∙ ap is_strset listed

  pub no-ack : ack_if_asked (message_of g 0) (message_header g 0) ≡ []
  unfolding get_one ack_if_asked u16_at
  no-ack = refl

  -- whatever it is found to name is what it says: its command, its flags and the port of its index
  pub names-one : (roll : List ℕ) (n : Named roll (message_of g 0)) → n.command.change ≡ false → flags ≤ 3 → index < 4294967296
      → (command_of command ≡ Some (OfSet n.command)) × (n.target.flags ≡ flags) × ((port_at roll n.target.position).index ≡ index)
  names-one roll n get few small =
      let listed = ap (λ (s : List ℕ). command_of (byte_at s 16)) (sym message-is) ∙ n.listed in
      let top = sym one-top ∙ ap (λ (s : List ℕ). top_of s false) (sym message-is) ∙ ap (top_of (message_of g 0)) (sym get) ∙ n.nests in
      let parts : ◌≡◌ {A = TopParts} (record { header = found 24 40; bitset = absent }) n.parts = cc in
      let head = sym (one-read few) ∙ ap (λ (s : List ℕ). header_of s (found 24 40) false) (sym message-is)
      ∙ ap (λ (p : TopParts). header_of (message_of g 0) p.header false) parts ∙ n.read in
      let both : ◌≡◌ {A = Header} (record { parts = record { index = found 28 32; name = absent; flags = found 36 40 }; flags = flags }) (record { parts = n.header; flags = n.target.flags }) = cc in
      let header : ◌≡◌ {A = HeaderParts} (record { index = found 28 32; name = absent; flags = found 36 40 }) n.header = ap (λ (x : Header). x.parts) both in
      let asked : flags ≡ n.target.flags = ap (λ (x : Header). x.flags) both in
      let stands : n.header.index.present ≡ true = ap (λ (p : HeaderParts). p.index.present) (sym header) in (
        ap command_of (sym command-is) ∙ listed,
        sym asked,
        n.port.index stands ∙ ap (λ (s : List ℕ). slot_number s n.header.index) message-is ∙ ap (λ (p : HeaderParts). slot_number g p.index) (sym header) ∙ index_is small,
      )

  -- every check passes
  module _ (box : Box) (family admin place room : ℕ) (low : 16 ≤ h.kind) (high : h.kind < 65536) (ours : h.kind ≡ family)
      (wide : 32768 ≤ room) (number : ℕ) (set : Set) (reply : ℕ) (dump : Bool) (listed : command_of command ≡ Some (OfSet (command_row number false set reply dump))) (few : flags ≤ 3) (small : index < 4294967296)
      (known : no_port (found_by_index box.roll index) ≡ false) where
    abbrev call : Call
    call = record { family = family; admin = admin; position = 0; place = place }

    abbrev c : Command
    c = command_row number false set reply dump

    unnamed : (f : Option ℕ) → named_otherwise g absent box.roll f ≡ false
    unfolding named_otherwise
    unnamed None = refl
    unnamed (Some k) = refl

    ports-pass : Done ≡ first_kind Done (port_checks g box.roll false (found 24 40) (record { index = found 28 32; name = absent; flags = found 36 40 }) ++ [])
    unfolding port_checks named_port_checks
    ports-pass =
        row _ _ _ refl
        (row _ _ _ refl
        (row _ _ _ (ap (ltb 3) (flags-are (omega arith)) ∙ le-ltb 3 flags few)
        (row _ _ _ (ap (λ (x : ℕ). no_port (found_by_index box.roll x)) (index_is small) ∙ known)
        (row _ _ _ refl (row _ _ _ (unnamed _) (no_more Done))))))

    levels-pass : Done ≡ first_kind Done (level_checks box g false (Some (OfSet c)) (record { header = found 24 40; bitset = absent }))
    unfolding level_checks top_checks header_checks header_parts is_set set_in
    levels-pass =
        rw header-walk
        (row _ _ _ refl (row _ _ _ refl (whole_row _ _ refl ports-pass)))

    message-passes : Done ≡ first_kind Done (command_checks box call g (message_header g 0) (Some (OfSet c)))
    unfolding command_checks admission_checks top_parts unlisted is_set is_strset
    message-passes =
        rw (asks-one, top-walk)
        (passes-row _ _ not-skipped
        (row _ _ _ family-is (row _ _ _ long (row _ _ _ refl (row _ _ _ refl (row _ _ _ refl (whole_row _ _ refl levels-pass)))))))
      where
        not-skipped : skip_if (message_header g 0) ≡ passes
        not-skipped = skips-not low high

        family-is : not (eqb (message_header g 0).kind family) ≡ false
        family-is = ap not (eq-eqb _ _ (kind-is high ∙ ours))

        long : ltb (length g) 20 ≡ false
        long = is-long

    last : Done ≡ first_kind Done (message_checks box call g (message_header g 0))
    unfolding message_checks
    last = rw (command-is, listed) message-passes

    pub one_passes : Done ≡ first_kind Done (call_checks true box call g room)
    unfolding call_checks
    one_passes =
        rw message-is
        (row _ _ _ refl
        (row _ _ _ (le-ltb room 32768 wide)
        (row _ _ _ is-short (row _ _ _ inside (passes-row _ _ not_end (row _ _ _ whole (row _ _ _ stated last)))))))
