-- What a message comes to, in two messages that agree but for paddings.
--     error-same, ack-same    the error message and the ACK: they quote the 16 header bytes, which are the same
--     request-same            an admitted request
--     message-same            the message: skipped, refused or carried out
use Prim.Native.Nat.{ℕ, ◌+◌, ◌-◌, ◌≤◌, ◌<◌, min}
use mathlib.Core.Path.{◌≡◌, refl, sym, ap, ◌∙◌}
use mathlib.Core.List.{List}
use mathlib.Core.Logic.{⊎_elim}
use lib.ListN.{length, get_or, take}
use lib.Seq.{get_or-take, take-take, take_all}
use lib.Dec.{eqb}
use mathlib.Core.Bool.{Bool, true, false, cond}
use borrow.Author.Tests.{eqb-true}
use native.Mathlib.Omega.{arith}
use Rattle.basics.specs.Numbers.{byte_at, u32_at}
use Rattle.basics.proofs.Order.{lt-or-ge}
use Rattle.netlink_attributes.specs.Attributes.{part_of}
use Rattle.netlink_attributes.proofs.Laws.{part_in}
use Rattle.netlink_headers.specs.declared.headers.MessageHeader.{MessageHeader}
use Rattle.netlink.specs.declared.walk.Slot.{Slot}
use Rattle.netlink_error.specs.Error.{error_header, error_start, error_message}
use Rattle.netlink_error.specs.declared.Detail.{Detail}
use Rattle.netlink_error.specs.declared.Detail.TheVariants.{Nothing}
use Rattle.refusal.specs.Refusal.{errno_of, detail_of}
use Rattle.refusal.specs.declared.Refusal.{Refusal}
use Rattle.bitset_form.specs.Bitset.{Reading}
use Rattle.bitset_form.specs.Bitset.Reading.{refused, accepted}
use Rattle.bitset.specs.Judge.{bitset_reading}
use Rattle.layout.specs.Layout.{list_of}
use Rattle.boxes.specs.Box.{Box, State}
use Rattle.boxes.specs.declared.Call.{Call}
use Rattle.admission.specs.Admission.{is_dump, admitted}
use Rattle.admission.specs.Commands.{command_row, command_in, command_of}
use Rattle.admission.specs.declared.commands.Command.{Command}
use Rattle.layout.specs.declared.Set.TheVariants.{Debug, Flags}
use Rattle.strset_request.specs.Asked.{asked_of}
use Rattle.strset.specs.Strset.{strset_bytes, content_response, asked_response, strset_response}
use Rattle.request.specs.Top.{top_of}
use Rattle.request.specs.Target.{target_of}
use Rattle.request.specs.declared.parts.TopParts.{TopParts}
use Rattle.request.specs.declared.target.Target.{Target}
use Rattle.response.specs.Answer.{Response, ack_bytes, error_response, unchanged}
use Rattle.execute.specs.declared.Request.{Request}
use Rattle.execute.specs.Execute.{request_of, port_reply, get_bytes, reading_outcome, set_outcome, port_outcome, target_outcome, header_outcome, top_outcome, request_outcome}
use Rattle.handler.specs.Call.{on_admission, message_outcome}
use Rattle.demands.specs.Padding.{MessagesAgree}
use Rattle.demands.proofs.PaddingWalk.{SlotAgrees}
use Rattle.demands.proofs.Message.{go-listed, go-strset}
use Rattle.demands.proofs.PaddingStrset.{asked-same}
use Rattle.demands.proofs.PaddingRequest.{top_payloads, top-same, nests-agree, named-same, reading-same}
use Rattle.std.specs.Prelude.{Some, None, Result, Ok, Err}
use Rattle.strset_request.specs.declared.asked.Asked.{Asked}
use Rattle.request.specs.declared.target.Addressee.{Addressee}
use Rattle.admission.specs.declared.Admission.{Admission}
use Rattle.admission.specs.declared.commands.Listed.TheVariants as C
use Rattle.admission.specs.declared.Admission.TheVariants as A
use Rattle.request.specs.declared.target.Addressee.TheVariants as G

-- the number of STRSET_GET is 1, and of no other command
strset-number : (n : ℕ) → command_of n ≡ Some C.Strset → n ≡ 1
unfolding command_of command_in
strset-number n e = go (eqb 1 n) (eqb 7 n) (eqb 8 n) (eqb 13 n) (eqb 14 n) refl e
  where
    go : (z a b c d : Bool) → eqb 1 n ≡ z
        → cond z (Some C.Strset)
        (cond a (Some (C.OfSet (command_row 7 false Debug 7 true)))
        (cond b (Some (C.OfSet (command_row 8 true Debug 7 false)))
        (cond c (Some (C.OfSet (command_row 13 false Flags 14 true))) (cond d (Some (C.OfSet (command_row 14 true Flags 14 false))) None))))
        ≡ Some C.Strset
        → n ≡ 1
    go true a b c d q e = sym (eqb-true 1 n q)
    go false true b c d q e = absurd (let z : ◌≡◌ {A = ℕ} 0 1 = cc in omega arith)
    go false false true c d q e = absurd (let z : ◌≡◌ {A = ℕ} 0 1 = cc in omega arith)
    go false false false true d q e = absurd (let z : ◌≡◌ {A = ℕ} 0 1 = cc in omega arith)
    go false false false false true q e = absurd (let z : ◌≡◌ {A = ℕ} 0 1 = cc in omega arith)
    go false false false false false q e = absurd (let z : ◌≡◌ {A = ℕ} 0 1 = cc in omega arith)

listed-number : (n : ℕ) (command : Command) → command_of n ≡ Some (C.OfSet command) → n ≡ 1 → ⊥
unfolding command_of command_in
listed-number n command e one = let q : (Some C.Strset) ≡ Some (C.OfSet command) = rw one at e in let z : ◌≡◌ {A = ℕ} 0 1 = cc in omega arith

module _ (s t : List ℕ) (agree : MessagesAgree s t) where
  -- the two headers: all 20 bytes, or the whole message where it is shorter
  twenty : take 20 t ≡ take 20 s
  twenty =
      let size = agree.size in
      let n : min 20 (length s) - 0 ≡ min 20 (length s) = omega arith in
      let start : take (min 20 (length s)) s ≡ take (min 20 (length s)) t =
      ap (λ (k : ℕ). take k s) (sym n)
      ∙ part_in s 0 (min 20 (length s)) (omega arith) (omega arith)
      ∙ agree.headers
      ∙ sym (part_in t 0 (min 20 (length s)) (omega arith) (omega arith))
      ∙ ap (λ (k : ℕ). take k t) n in
      ⊎_elim
      (λ (h : length s < 20).
      let k : min 20 (length s) ≡ length s = omega arith in
      let whole : s ≡ t = sym (take_all (length s) s (omega arith)) ∙ (rw k at start) ∙ take_all (length s) t (omega arith) in
      ap (take 20) (sym whole))
      (λ (h : 20 ≤ length s).
      let k : min 20 (length s) ≡ 20 = omega arith in
      sym (rw k at start))
      (lt-or-ge (length s) 20)

  byte-same : (i : ℕ) → i < 20 → get_or t i 0 ≡ get_or s i 0
  byte-same i l = sym (get_or-take 20 t i 0 l) ∙ ap (λ (x : List ℕ). get_or x i 0) twenty ∙ get_or-take 20 s i 0 l

  sixteen : take 16 t ≡ take 16 s
  sixteen = sym (take-take 16 20 t (omega arith)) ∙ ap (take 16) twenty ∙ take-take 16 20 s (omega arith)

  number_same : (i : ℕ) → i + 4 ≤ 20 → u32_at t i ≡ u32_at s i
  unfolding u32_at
  number_same i l =
      rw (byte-same i (omega arith), byte-same (i + 1) (omega arith), byte-same (i + 2) (omega arith), byte-same (i + 3) (omega arith))

  -- the error message and the ACK
  pub error-same : (errno : ℕ) (detail : Detail) → error_message t errno detail ≡ error_message s errno detail
  unfolding error_message error_start error_header
  error-same errno detail = rw (number_same 8 (omega arith), number_same 12 (omega arith), sixteen)

  pub ack-same : (h : MessageHeader) → ack_bytes t h ≡ ack_bytes s h
  unfolding ack_bytes
  ack-same h = rw (error-same 0 Nothing)

  refusal-same : (state : State) (next : ℕ) (why : Refusal) → unchanged (error_response t next why) state ≡ unchanged (error_response s next why) state
  refusal-same state next why = rw (error-same (errno_of why) (detail_of why))

  -- a STRSET_GET
  strset-same : (box : Box) (h : MessageHeader) (next : ℕ) → byte_at s 16 ≡ 1 → strset_response box t h next ≡ strset_response box s h next
  unfolding strset_response content_response strset_bytes
  strset-same box h next e =
      ap (λ (x : Result Asked Refusal). asked_response x box t h next) (asked-same s t agree.size (agree.names-agree e) box.roll)
      ∙ go (asked_of s box.roll)
    where
      go : (x : Result Asked Refusal) → asked_response x box t h next ≡ asked_response x box s h next
      go (Err why) = rw (error-same (errno_of why) (detail_of why))
      go (Ok asked) = rw (ack-same h, error-same 90 Nothing)

  -- an admitted request, level by level
  module _ (box : Box) (state : State) (request : Request) (other : byte_at s 16 ≡ 1 → ⊥) where
    set_same : (slot : Slot) (position : ℕ) → SlotAgrees s t (top_payloads s t) 2 slot
        → set_outcome box state t request slot position ≡ set_outcome box state s request slot position
    unfolding set_outcome
    set_same slot position a =
        let names = list_of box.names request.command.set in
        ap (λ (x : Reading). reading_outcome x box state t request position) (reading-same s t agree.size (agree.attributes-agree other) names a)
        ∙ go (bitset_reading (part_of s 0 slot.end) slot.start names)
      where
        go : (x : Reading) → reading_outcome x box state t request position ≡ reading_outcome x box state s request position
        go (refused why) = refusal-same state request.next why
        go (accepted b) = rw (ack-same request.header)

    get-same : (target : Target) → get_bytes box state t request target ≡ get_bytes box state s request target
    unfolding get_bytes port_reply
    get-same target = rw (ack-same request.header)

    header-same : (parts : TopParts) → top_of s request.command.change ≡ Ok parts
        → header_outcome box state t request parts ≡ header_outcome box state s request parts
    unfolding header_outcome port_outcome
    header-same parts e =
        let nests = nests-agree s t agree.size (agree.attributes-agree other) request.command.change parts e in
        ap (λ (x : Result Addressee Refusal). target_outcome x box state t request (port_outcome box state t request parts.bitset))
        (named-same s t agree.size (agree.attributes-agree other) (is_dump request.header) box.roll nests.0 nests.1)
        ∙ go nests.2 (target_of s parts.header (is_dump request.header) box.roll)
      where
        go : SlotAgrees s t (top_payloads s t) 2 parts.bitset → (x : Result Addressee Refusal)
            → target_outcome x box state t request (port_outcome box state t request parts.bitset)
            ≡ target_outcome x box state s request (port_outcome box state s request parts.bitset)
        go a (Err why) = refusal-same state request.next why
        go a (Ok (G.Unnamed flags)) = refl
        go a (Ok (G.Port target)) = rw (set_same parts.bitset target.position a, get-same target)

    pub request-same : request_outcome box state t request ≡ request_outcome box state s request
    unfolding request_outcome
    request-same =
        ap (λ (x : Result TopParts Refusal). top_outcome x state t request (header_outcome box state t request))
        (top-same s t agree.size (agree.attributes-agree other) request.command.change)
        ∙ go (top_of s request.command.change) refl
      where
        go : (x : Result TopParts Refusal) → top_of s request.command.change ≡ x
            → top_outcome x state t request (header_outcome box state t request) ≡ top_outcome x state s request (header_outcome box state s request)
        go (Err why) e = refusal-same state request.next why
        go (Ok parts) e = header-same parts e

  -- the message
  module _ (box : Box) (state : State) (call : Call) (h : MessageHeader) (next : ℕ) where
    admitted-same : admitted t h call.family (eqb call.admin 1) ≡ admitted s h call.family (eqb call.admin 1)
    unfolding admitted byte_at
    admitted-same = rw (← agree.size, byte-same 16 (omega arith))

    pub message-same : message_outcome box state call t h next ≡ message_outcome box state call s h next
    unfolding message_outcome
    message-same =
        ap (λ (x : Result Admission Refusal). on_admission x box state call t h next) admitted-same
        ∙ go (admitted s h call.family (eqb call.admin 1)) refl
      where
        strset-byte : admitted s h call.family (eqb call.admin 1) ≡ Ok A.Strset → byte_at s 16 ≡ 1
        strset-byte e = strset-number (byte_at s 16) (go-strset s h call.family (eqb call.admin 1) e).0

        listed-byte : (command : Command) → admitted s h call.family (eqb call.admin 1) ≡ Ok (A.Admitted command) → byte_at s 16 ≡ 1 → ⊥
        listed-byte command e = listed-number (byte_at s 16) command (go-listed s h call.family (eqb call.admin 1) command e).0

        go : (x : Result Admission Refusal) → admitted s h call.family (eqb call.admin 1) ≡ x → on_admission x box state call t h next ≡ on_admission x box state call s h next
        go (Ok A.Skipped) e = refl
        go (Err why) e = refusal-same state next why
        go (Ok A.Strset) e = ap (λ (r : Response). unchanged r state) (strset-same box h next (strset-byte e))
        go (Ok (A.Admitted command)) e = request-same box state (request_of call h next command) (listed-byte command e)
