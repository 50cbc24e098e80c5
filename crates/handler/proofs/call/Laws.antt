-- Laws of one call: one for each return.
use Prim.Native.Nat.{ℕ, ◌+◌, ◌-◌, ◌≤◌, ◌<◌, min}
use mathlib.Core.Path.{◌≡◌, refl, sym, ap, ◌∙◌}
use mathlib.Core.List.{List}
use mathlib.Core.Bool.{Bool, true, false, cond, not, ◌||◌}
use lib.ListN.{length, drop, length-drop}
use lib.Seq.{length-take-le}
use lib.Dec.{eqb, ltb}
use native.Mathlib.Omega.{arith}
use borrow.Author.Tests.{lt-ltb, le-ltb, ltb-false, not-false}
use Rattle.basics.specs.Numbers.{u32_at}
use Rattle.basics.proofs.Put.{put-nil}
use Rattle.netlink_headers.specs.Lengths.{round_up4}
use Rattle.netlink_headers.specs.Headers.{message_header}
use Rattle.netlink_headers.specs.Messages.{message_at}
use Rattle.netlink_attributes.proofs.Laws.{part_in}
use Rattle.netlink_attributes.specs.Attributes.{part_of}
use Rattle.netlink_headers.specs.declared.headers.MessageHeader.{MessageHeader}
use Rattle.netlink_headers.specs.declared.messages.MessageRead.{MessageRead}
use Rattle.netlink_headers.specs.declared.messages.MessageRead.TheVariants.{Message, Misstated, Cut, AtEnd, Outside}
use Rattle.refusal.specs.declared.Refusal.{Refusal}
use Rattle.refusal.specs.declared.Refusal.TheVariants as R
use Rattle.entries.specs.Entry.{count}
use Rattle.boxes.specs.Box.{Box, State, box_of, set_of}
use Rattle.boxes.specs.Rule.{box_right}
use Rattle.boxes.specs.declared.Call.{Call}
use Rattle.boxes.proofs.rule.Meaning.{box-means}
use Rattle.roll.specs.Table.{Tabled, TableRead}
use Rattle.roll_rule.proofs.Laws.{right-tabled}
use Rattle.admission.specs.Admission.{admitted}
use Rattle.admission.specs.declared.commands.Command.{Command}
use Rattle.response.specs.Answer.{Outcome, no_bytes, error_response, unchanged, Responds, Performs}
use Rattle.strset.specs.Strset.{strset_response}
use Rattle.execute.specs.Execute.{request_of, request_outcome}
use Rattle.execute.specs.Fit.{Fit}
use Rattle.handler.specs.Call.{message_outcome, on_message, position_outcome, outcome}
use Rattle.response.specs.declared.Kind.{Kind}
use Rattle.response.specs.declared.Kind.TheVariants.{End, Skipped, Refused}
use Rattle.response.specs.declared.Answer.{Answer}
use Rattle.execute.proofs.Laws.{unchanged-performs}
use Rattle.std.specs.Prelude.{Result, Ok, Err}
use Rattle.admission.specs.declared.Admission.{Admission}
use Rattle.admission.specs.declared.Admission.TheVariants as A

-- nothing is written, and the state is as before
pub no-bytes-performs : (o : Outcome State) (k : Kind) (next : ℕ) (P : List ℕ) (state : State) (r : Answer) → r ≡ record { kind = k; next = next; place = 0; written = 0 }
    → o ≡ unchanged (no_bytes k next) state → Performs o P P state r
no-bytes-performs o k next P state r e q = rw q (record { response = record { result = e; page = sym (put-nil P) }; state-is = refl })

module _ (box : Box) (state : State) (call : Call) (m : List ℕ) (h : MessageHeader) (next : ℕ) (a : Result Admission Refusal)
    (e : a ≡ admitted m h call.family (eqb call.admin 1)) (P : List ℕ) (r : Answer) where
  pub message-skipped : (x : Admission) → a ≡ Ok x → x ≡ A.Skipped → r ≡ record { kind = Skipped; next = next; place = 0; written = 0 } → Performs (message_outcome box state call m h next) P P state r
  unfolding message_outcome
  message-skipped x q z er = no-bytes-performs _ Skipped next P state r er (rw (← e, q, z))

  module _ (Q : List ℕ) where
    pub message-refused : (why : Refusal) → a ≡ Err why → Responds (error_response m next why) P Q r → Performs (message_outcome box state call m h next) P Q state r
    unfolding message_outcome
    message-refused why q s = rw (← e, q) (unchanged-performs (error_response m next why) P Q state r s)

    pub message-strset : (x : Admission) → a ≡ Ok x → x ≡ A.Strset → Responds (strset_response box m h next) P Q r → Performs (message_outcome box state call m h next) P Q state r
    unfolding message_outcome
    message-strset x q z s = rw (← e, q, z) (unchanged-performs (strset_response box m h next) P Q state r s)

    pub message-admitted : (x : Admission) (c : Command) (new : State) → a ≡ Ok x → x ≡ A.Admitted c → Performs (request_outcome box state m (request_of call h next c)) P Q new r
        → Performs (message_outcome box state call m h next) P Q new r
    unfolding message_outcome
    message-admitted x c new q z d = rw (← e, q, z) d

-- a right box's lists are short enough
module _ (roll debug flags : List ℕ) (state : State) (fit : Fit (box_of roll debug flags) state) where
  pub fit-debug : count debug ≤ 512
  fit-debug = fit.few.debug

  pub fit-flags : count flags ≤ 512
  fit-flags = fit.few.flags

pub ruleset message-laws = (message-skipped, message-refused, message-strset, message-admitted, fit-debug, fit-flags)

-- a right box fits
pub box-fit : (box : Box) (state : State) (call : Call) (b : Bool) → b ≡ box_right box state call → not b ≡ false → Fit box state
unfolding set_of
box-fit box state call b e n =
    let right = box-means box state call (sym e ∙ not-false b n) in
    record { ports = right.ports-few; few = right.few; exact = right.settings.exact; clear = right.settings.clear }

-- and its table holds its ports
pub box-table : (box : Box) (state : State) (call : Call) (b : Bool) (t : List ℕ) → TableRead box.roll t → b ≡ box_right box state call → not b ≡ false → Tabled box.roll t
box-table box state call b t r e n = right-tabled box.roll t r (box-means box state call (sym e ∙ not-false b n)).roll-right

-- the message at the position
module _ (box : Box) (state : State) (call : Call) (datagram P : List ℕ) (x : MessageRead) (ex : x ≡ message_at datagram call.position) where
  by-message : position_outcome box state call datagram
      ≡ on_message x call state (λ h end next. message_outcome box state call (part_of datagram call.position end) h next)
  unfolding position_outcome
  by-message = rw (← ex)

  module _ (r : Answer) where
    pub at-outside : x ≡ Outside → r ≡ record { kind = Refused R.Datagram; next = call.position; place = 0; written = 0 } → Performs (position_outcome box state call datagram) P P state r
    at-outside q er = no-bytes-performs _ (Refused R.Datagram) call.position P state r er (by-message ∙ rw q)

    pub at-end : x ≡ AtEnd → r ≡ record { kind = End; next = call.position; place = 0; written = 0 } → Performs (position_outcome box state call datagram) P P state r
    at-end q er = no-bytes-performs _ End call.position P state r er (by-message ∙ rw q)

    pub at_cut : x ≡ Cut → r ≡ record { kind = Refused R.Datagram; next = call.position; place = 0; written = 0 } → Performs (position_outcome box state call datagram) P P state r
    at_cut q er = no-bytes-performs _ (Refused R.Datagram) call.position P state r er (by-message ∙ rw q)

    pub at-misstated : x ≡ Misstated → r ≡ record { kind = Refused R.Length; next = call.position; place = 0; written = 0 } → Performs (position_outcome box state call datagram) P P state r
    at-misstated q er = no-bytes-performs _ (Refused R.Length) call.position P state r er (by-message ∙ rw q)

    pub at-message : (h : MessageHeader) (end next : ℕ) (m Q : List ℕ) (new : State) → x ≡ Message h end next → m ≡ part_of datagram call.position end
        → Performs (message_outcome box state call m h next) P Q new r → Performs (position_outcome box state call datagram) P Q new r
    at-message h end next m Q new q em d = rw (by-message, q, ← em) d

pub ruleset at-laws = (at-outside, at-end, at_cut, at-misstated, at-message)

-- the box, the page, the datagram
module _ (box : Box) (state : State) (call : Call) (datagram P : List ℕ) (b : Bool) (e : b ≡ box_right box state call) where
  pub call-box : (r : Answer) → not b ≡ true → r ≡ record { kind = Refused R.Box; next = call.position; place = 0; written = 0 }
      → Performs (outcome box state call datagram (length P)) P P state r
  unfolding outcome
  call-box r z er = no-bytes-performs _ (Refused R.Box) call.position P state r er (rw (← e, z))

  module _ (right : not b ≡ false) where
    pub call-page : (r : Answer) → length P < 32768 → r ≡ record { kind = Refused R.Page; next = call.position; place = 0; written = 0 }
        → Performs (outcome box state call datagram (length P)) P P state r
    unfolding outcome
    call-page r l er = no-bytes-performs _ (Refused R.Page) call.position P state r er (rw (← e, right, lt-ltb _ _ l))

    module _ (room : 32768 ≤ length P) where
      pub call_long : (r : Answer) → 32768 < length datagram → r ≡ record { kind = Refused R.Datagram; next = call.position; place = 0; written = 0 }
          → Performs (outcome box state call datagram (length P)) P P state r
      unfolding outcome
      call_long r l er = no-bytes-performs _ (Refused R.Datagram) call.position P state r er (rw (← e, right, le-ltb _ _ room, lt-ltb _ _ l))

      pub call_at : length datagram ≤ 32768 → (Q : List ℕ) (new : State) (r : Answer) → Performs (position_outcome box state call datagram) P Q new r
          → Performs (outcome box state call datagram (length P)) P Q new r
      unfolding outcome
      call_at short Q new r d = rw (← e, right, le-ltb _ _ room, le-ltb _ _ short) d

pub ruleset call-laws = (call-box, call-page, call_long, call_at)

-- a message that was read has its 16 header bytes
message-bounds : (d : List ℕ) (at : ℕ) (h : MessageHeader) (e n : ℕ) → message_at d at ≡ Message h e n → (at + 16 ≤ e) × (e ≤ length d)
unfolding message_at
message-bounds d at h e n q =
    by (ltb (length d) at) (eqb at (length d)) (ltb (length d) (at + 16)) (ltb (u32_at d at) 16) (ltb (length d) (at + u32_at d at)) refl refl q
  where
    by : (a b c f g : Bool) → ltb (u32_at d at) 16 ≡ f → ltb (length d) (at + u32_at d at) ≡ g
        → cond a Outside (cond b AtEnd (cond c Cut (cond (f || g) Misstated (Message (message_header d at) (at + u32_at d at) (min (at + round_up4 (u32_at d at)) (length d))))))
        ≡ Message h e n → (at + 16 ≤ e) × (e ≤ length d)
    by true b c f g p r q = absurd (let z : ◌≡◌ {A = ℕ} 0 1 = cc in omega arith)
    by false true c f g p r q = absurd (let z : ◌≡◌ {A = ℕ} 0 1 = cc in omega arith)
    by false false true f g p r q = absurd (let z : ◌≡◌ {A = ℕ} 0 1 = cc in omega arith)
    by false false false true g p r q = absurd (let z : ◌≡◌ {A = ℕ} 0 1 = cc in omega arith)
    by false false false false true p r q = absurd (let z : ◌≡◌ {A = ℕ} 0 1 = cc in omega arith)
    by false false false false false p r q =
        let e1 : e ≡ at + u32_at d at = cc in
        let lo = ltb-false (u32_at d at) 16 p in
        let hi = ltb-false (length d) (at + u32_at d at) r in
        (omega arith, omega arith)

pub message-long : (d : List ℕ) (at : ℕ) (x : MessageRead) (h : MessageHeader) (e n : ℕ) (m : List ℕ) → x ≡ message_at d at → x ≡ Message h e n → m ≡ part_of d at e
    → 16 ≤ length m
message-long d at x h e n m ex q em =
    let b = message-bounds d at h e n (sym ex ∙ q) in
    let l : length m ≡ e - at = ap length (em ∙ sym (part_in d at e (omega arith) b.1)) ∙ length-take-le (e - at) (drop at d) (rw (length-drop at d) (omega arith)) in
    omega arith
