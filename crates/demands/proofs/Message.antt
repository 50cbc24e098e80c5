-- Every message comes to one of the six cases.
use Prim.Native.Nat.{ℕ, ◌%◌}
use mathlib.Core.Path.{◌≡◌, refl, sym, ap, ◌∙◌}
use mathlib.Core.List.{List}
use mathlib.Core.Bool.{Bool, true, false, ◌||◌, not, cond}
use lib.ListN.{length}
use lib.Dec.{eqb, ltb}
use native.Mathlib.Omega.{arith}
use borrow.Author.Tests.{ltb-false}
use Rattle.basics.specs.Numbers.{byte_at}
use Rattle.netlink_attributes.specs.Attributes.{part_of}
use Rattle.netlink_headers.specs.declared.headers.MessageHeader.{MessageHeader}
use Rattle.refusal.specs.declared.Refusal.TheVariants as R
use Rattle.bitset_form.specs.Bitset.{Reading}
use Rattle.bitset_form.specs.Bitset.Reading.{refused, accepted}
use Rattle.bitset.specs.Judge.{bitset_reading}
use Rattle.layout.specs.Layout.{list_of}
use Rattle.boxes.specs.Box.{Box, State}
use Rattle.boxes.specs.declared.Call.{Call}
use Rattle.admission.specs.Admission.{is_dump, no_dump, not_permitted, permitted, strset_permitted, on_command, admitted}
use Rattle.request.specs.Target.{target_of}
use Rattle.admission.specs.Commands.{command_of}
use Rattle.request.specs.Top.{top_of}
use Rattle.admission.specs.declared.commands.Command.{Command}
use Rattle.request.specs.declared.parts.TopParts.{TopParts}
use Rattle.response.specs.Answer.{Outcome, response_of, error_response, unchanged}
use Rattle.strset_request.specs.Asked.{asked_of}
use Rattle.strset_request.specs.declared.asked.Asked.{Asked}
use Rattle.strset.specs.Strset.{strset_content_in, strset_bytes, content_response, asked_response, strset_response}
use Rattle.response.specs.declared.Kind.TheVariants.{Done}
use Rattle.execute.specs.Execute.{request_of, get_bytes, reading_outcome, set_outcome, port_outcome, target_outcome, header_outcome, top_outcome, request_outcome}
use Rattle.handler.specs.Call.{on_admission, message_outcome}
use Rattle.demands.specs.Message.{Named}
use Rattle.demands.specs.CallCase.{MessageCase}
use Rattle.demands.proofs.Named.{header-gives, dump-gives, dump-unnamed, one-named}
use Rattle.demands.proofs.Request.{listed-dump, not-both}
use Rattle.demands.specs.CallCase.MessageCase.{message_skipped, message_refused, get_done, dump_done, strset_done, set_done}
use Rattle.std.specs.Prelude.{Option, Some, None, Result, Ok, Err}
use Rattle.refusal.specs.declared.Refusal.{Refusal}
use Rattle.request.specs.declared.target.Addressee.{Addressee}
use Rattle.admission.specs.declared.commands.Listed.{Listed}
use Rattle.admission.specs.declared.Admission.{Admission}
use Rattle.admission.specs.declared.Admission.TheVariants as A
use Rattle.request.specs.declared.target.Addressee.TheVariants as P
use Rattle.admission.specs.declared.commands.Listed.TheVariants.{OfSet, Strset}

-- a command that is admitted is listed, and is no SET that asks for a dump
pub go-listed : (m : List ℕ) (h : MessageHeader) (family : ℕ) (admin : Bool) (command : Command) → admitted m h family admin ≡ Ok (A.Admitted command)
    → (command_of (byte_at m 16) ≡ Some (OfSet command)) × (no_dump h command ≡ false)
unfolding admitted permitted strset_permitted
go-listed m h family admin command e =
    by (ltb h.kind 16 || eqb (h.flags % 2) 0) (not (eqb h.kind family)) (ltb (length m) 20) (command_of (byte_at m 16)) e
  where
    admits : (a b : Bool) (c : Command) → no_dump h c ≡ a → cond a (Err R.Dump) (cond b (Err R.Permission) (Ok (A.Admitted c))) ≡ Ok (A.Admitted command)
        → (c ≡ command) × (no_dump h command ≡ false)
    admits true b c q e = absurd (let z : ◌≡◌ {A = ℕ} 0 1 = cc in omega arith)
    admits false true c q e = absurd (let z : ◌≡◌ {A = ℕ} 0 1 = cc in omega arith)
    admits false false c q e = let same : c ≡ command = cc in (same, rw same at q)

    strset-not : (t : Bool) → cond t (Err R.Dump) (Ok A.Strset) ≡ Ok (A.Admitted command) → ⊥
    strset-not true e = let z : ◌≡◌ {A = ℕ} 0 1 = cc in omega arith
    strset-not false e = let z : ◌≡◌ {A = ℕ} 0 1 = cc in omega arith

    by : (a b c : Bool) (x : Option Listed)
        → cond a (Ok A.Skipped) (cond b (Err R.Family) (cond c (Err R.Short) (on_command x (strset_permitted h) (permitted h admin)))) ≡ Ok (A.Admitted command)
        → (x ≡ Some (OfSet command)) × (no_dump h command ≡ false)
    by true b c x e = absurd (let z : ◌≡◌ {A = ℕ} 0 1 = cc in omega arith)
    by false true c x e = absurd (let z : ◌≡◌ {A = ℕ} 0 1 = cc in omega arith)
    by false false true x e = absurd (let z : ◌≡◌ {A = ℕ} 0 1 = cc in omega arith)
    by false false false None e = absurd (let z : ◌≡◌ {A = ℕ} 0 1 = cc in omega arith)
    by false false false (Some Strset) e = absurd (strset-not (is_dump h) e)
    by false false false (Some (OfSet c)) e = let a = admits (no_dump h c) (not_permitted c admin) c refl e in (ap (λ (y : Command). Some (OfSet y)) a.0, a.1)

-- a STRSET_GET that is admitted is no dump
pub go-strset : (m : List ℕ) (h : MessageHeader) (family : ℕ) (admin : Bool) → admitted m h family admin ≡ Ok A.Strset
    → (command_of (byte_at m 16) ≡ (Some Strset)) × (is_dump h ≡ false)
unfolding admitted permitted strset_permitted
go-strset m h family admin e =
    by (ltb h.kind 16 || eqb (h.flags % 2) 0) (not (eqb h.kind family)) (ltb (length m) 20) (command_of (byte_at m 16)) e
  where
    strset : (t : Bool) → is_dump h ≡ t → cond t (Err R.Dump) (Ok A.Strset) ≡ Ok A.Strset → is_dump h ≡ false
    strset true q e = absurd (let z : ◌≡◌ {A = ℕ} 0 1 = cc in omega arith)
    strset false q e = q

    other : (a b : Bool) (c : Command) → cond a (Err R.Dump) (cond b (Err R.Permission) (Ok (A.Admitted c))) ≡ Ok A.Strset → ⊥
    other true b c e = let z : ◌≡◌ {A = ℕ} 0 1 = cc in omega arith
    other false true c e = let z : ◌≡◌ {A = ℕ} 0 1 = cc in omega arith
    other false false c e = let z : ◌≡◌ {A = ℕ} 0 1 = cc in omega arith

    by : (a b c : Bool) (x : Option Listed)
        → cond a (Ok A.Skipped) (cond b (Err R.Family) (cond c (Err R.Short) (on_command x (strset_permitted h) (permitted h admin)))) ≡ Ok A.Strset
        → (x ≡ (Some Strset)) × (is_dump h ≡ false)
    by true b c x e = absurd (let z : ◌≡◌ {A = ℕ} 0 1 = cc in omega arith)
    by false true c x e = absurd (let z : ◌≡◌ {A = ℕ} 0 1 = cc in omega arith)
    by false false true x e = absurd (let z : ◌≡◌ {A = ℕ} 0 1 = cc in omega arith)
    by false false false None e = absurd (let z : ◌≡◌ {A = ℕ} 0 1 = cc in omega arith)
    by false false false (Some Strset) e = (refl, strset (is_dump h) refl e)
    by false false false (Some (OfSet c)) e = absurd (other (no_dump h c) (not_permitted c admin) c e)

module _ (box : Box) (state : State) (call : Call) (m : List ℕ) (h : MessageHeader) (next : ℕ) where
  strset-case : admitted m h call.family (eqb call.admin 1) ≡ Ok A.Strset → MessageCase box state call m h next (unchanged (strset_response box m h next) state)
  unfolding strset_response content_response
  strset-case admit =
      let l = go-strset m h call.family (eqb call.admin 1) admit in
      go l.0 l.1 (asked_of m box.roll) refl
    where
      by : command_of (byte_at m 16) ≡ Some Strset → is_dump h ≡ false → (asked : Asked) → asked_of m box.roll ≡ Ok asked
          → (t : Bool) → ltb 32768 (length (strset_bytes m h (strset_content_in box asked))) ≡ t
          → MessageCase box state call m h next
          (unchanged (cond t (error_response m next R.LongReply) (response_of Done next (strset_bytes m h (strset_content_in box asked)))) state)
      by listed one asked q true e = message_refused R.LongReply refl
      by listed one asked q false e = strset_done one listed asked q (ltb-false 32768 (length (strset_bytes m h (strset_content_in box asked))) e) refl

      go : command_of (byte_at m 16) ≡ Some Strset → is_dump h ≡ false → (x : Result Asked Refusal) → asked_of m box.roll ≡ x
          → MessageCase box state call m h next (unchanged (asked_response x box m h next) state)
      go listed one (Err why) q = message_refused why refl
      go listed one (Ok asked) q = by listed one asked q (ltb 32768 (length (strset_bytes m h (strset_content_in box asked)))) refl

  module _ (one : is_dump h ≡ false) (n : Named box.roll m) where
    set-case : n.command.change ≡ true → MessageCase box state call m h next (set_outcome box state m (request_of call h next n.command) n.parts.bitset n.target.position)
    unfolding set_outcome
    set-case change = go (bitset_reading (part_of m 0 n.parts.bitset.end) n.parts.bitset.start (list_of box.names n.command.set)) refl
      where
        go : (x : Reading) → bitset_reading (part_of m 0 n.parts.bitset.end) n.parts.bitset.start (list_of box.names n.command.set) ≡ x
            → MessageCase box state call m h next (reading_outcome x box state m (request_of call h next n.command) n.target.position)
        go (refused why) e = message_refused why refl
        go (accepted b) e = set_done one n change b e refl

    port-outcome-case : MessageCase box state call m h next (port_outcome box state m (request_of call h next n.command) n.parts.bitset n.target)
    unfolding port_outcome
    port-outcome-case = go n.command.change refl
      where
        got : Outcome State
        got = unchanged (response_of Done next (get_bytes box state m (request_of call h next n.command) n.target)) state

        go : (t : Bool) → n.command.change ≡ t
            → MessageCase box state call m h next (cond t (set_outcome box state m (request_of call h next n.command) n.parts.bitset n.target.position) got)
        go true e = set-case e
        go false e = get_done one n e refl

  module _ (command : Command) (listed : command_of (byte_at m 16) ≡ Some (OfSet command)) (may : no_dump h command ≡ false) where
    -- a dump is of a GET
    dump-get : is_dump h ≡ true → command.change ≡ false
    unfolding no_dump
    dump-get d = sym (listed-dump (byte_at m 16) command listed) ∙ not-both (is_dump h) (not command.dump) may d

    header-case : (parts : TopParts) → top_of m command.change ≡ Ok parts
        → MessageCase box state call m h next (header_outcome box state m (request_of call h next command) parts)
    unfolding header_outcome
    header-case parts nests = go (is_dump h) refl (target_of m parts.header (is_dump h) box.roll) refl
      where
        go : (d : Bool) → is_dump h ≡ d → (a : Result Addressee Refusal) → target_of m parts.header d box.roll ≡ a → MessageCase box state call m h next (target_outcome a box state m (request_of call h next command) (port_outcome box state m (request_of call h next command) parts.bitset))
        go d q (Err why) e = message_refused why refl
        go false q (Ok (P.Unnamed flags)) e = absurd (one-named box.roll m parts.header flags e)
        go true q (Ok (P.Port target)) e = absurd (dump-unnamed box.roll m parts.header target e)
        go true q (Ok (P.Unnamed flags)) e =
            let given = dump-gives box.roll m parts.header flags e in
            dump_done q
            (record {
              command = command;
              listed = listed;
              is_get = dump-get q;
              parts = parts;
              nests = rw (dump-get q) at nests;
              header = given.header;
              flags = flags;
              read = given.read;
              flags-are = given.flags-are;
              flags-few = given.flags-few;
              no_index = given.no_index;
              no_name = given.no_name;
            })
            refl
        go false q (Ok (P.Port target)) e =
            let given = header-gives box.roll m parts.header target e in
            port-outcome-case q
            (record {
              command = command;
              listed = listed;
              parts = parts;
              nests = nests;
              target = target;
              found = e;
              header = given.header;
              read = given.read;
              flags = given.flags;
              port = given.port;
            })

    request-case : MessageCase box state call m h next (request_outcome box state m (request_of call h next command))
    unfolding request_outcome
    request-case = go (top_of m command.change) refl
      where
        go : (t : Result TopParts Refusal) → top_of m command.change ≡ t → MessageCase box state call m h next (top_outcome t state m (request_of call h next command) (header_outcome box state m (request_of call h next command)))
        go (Err why) e = message_refused why refl
        go (Ok parts) e = header-case parts e

  pub message-case : MessageCase box state call m h next (message_outcome box state call m h next)
  unfolding message_outcome
  message-case = go (admitted m h call.family (eqb call.admin 1)) refl
    where
      go : (a : Result Admission Refusal) → admitted m h call.family (eqb call.admin 1) ≡ a
          → MessageCase box state call m h next (on_admission a box state call m h next)
      go (Ok A.Skipped) e = message_skipped refl
      go (Err why) e = message_refused why refl
      go (Ok A.Strset) e = strset-case e
      go (Ok (A.Admitted command)) e = let l = go-listed m h call.family (eqb call.admin 1) command e in request-case command l.0 l.1
