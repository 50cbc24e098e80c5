-- Demand 2, "Each attribute is shown as its own part of the datagram, inside its parent, apart from its siblings".
--     request-parts    of every request that is admitted: the message in the datagram, its attributes in the message, and level by level down to the
--                      parts of each BIT, what is read stands in its parent, apart from its siblings
--     call-parts       so of every call of the exported handler that is done, or refused by 10 or more
use Prim.Native.Nat.{ℕ, ◌+◌, ◌-◌, ◌%◌, ◌≤◌, ◌<◌}
use mathlib.Core.Path.{◌≡◌, refl, sym, ap, ◌∙◌}
use mathlib.Core.List.{List}
use mathlib.Core.Bool.{Bool, true, false, ◌||◌, not, cond}
use mathlib.Core.Logic.{◌⊎◌, inl, inr, ⊎_elim}
use lib.ListN.{length, take, drop, length-drop}
use lib.Dec.{eqb, ltb}
use lib.Seq.{length-take-le}
use native.Mathlib.Omega.{arith}
use borrow.Author.Tests.{ltb-false, le-ltb, leb-true}
use Rattle.basics.specs.Numbers.{byte_at, u32_at}
use Rattle.basics.proofs.Order.{lt-or-ge}
use Rattle.basics.proofs.Truth.{clash}
use Rattle.netlink_attributes.proofs.Apart.{apart}
use Rattle.netlink_attributes.proofs.Laws.{part_in, part-past}
use Rattle.netlink_headers.specs.Headers.{message_header}
use Rattle.netlink_headers.specs.declared.headers.MessageHeader.{MessageHeader}
use Rattle.refusal.specs.Refusal.{number_of}
use Rattle.refusal.specs.declared.Refusal.{Refusal}
use Rattle.refusal.specs.declared.Refusal.TheVariants as R
use Rattle.boxes.specs.Box.{Box, State}
use Rattle.boxes.specs.declared.Call.{Call}
use Rattle.admission.specs.Admission.{is_dump, no_dump, not_permitted, permitted, strset_permitted, on_command, admitted}
use Rattle.admission.specs.Commands.{command_of}
use Rattle.admission.specs.declared.commands.Command.{Command}
use Rattle.response.specs.Answer.{Outcome, Response}
use Rattle.response.specs.declared.Kind.{Kind}
use Rattle.response.specs.declared.Kind.TheVariants.{End, Skipped, Done, Refused}
use Rattle.handler.specs.Call.{on_admission, message_outcome, outcome, ends_run}
use Rattle.handler.specs.Bytes.{Stored, in_words, bytes_outcome}
use Rattle.demands.specs.Request.{asks_dump}
use Rattle.demands.specs.Call.{message_of, next_of}
use Rattle.demands.specs.CallCase.{CallCase}
use Rattle.demands.specs.CallCase.CallCase.{ended, not_read, message_answered}
use Rattle.demands.specs.Parts.{past_nine, RequestParts}
use Rattle.demands.proofs.Request.{kind, message-first}
use Rattle.demands.proofs.CallCase.{call-case}
use Rattle.demands.proofs.Stored.{over-words}
use Rattle.demands.specs.StrsetParts.{NamesParts}
use Rattle.demands.proofs.StrsetParts.{names-read}
use Rattle.demands.proofs.Parts.{top_read}
use Rattle.std.specs.Prelude.{Option, Some, None, Result, Ok, Err}
use Rattle.admission.specs.declared.commands.Listed.{Listed}
use Rattle.admission.specs.declared.Admission.{Admission}
use Rattle.admission.specs.declared.Admission.TheVariants as A
use Rattle.admission.specs.declared.commands.Listed.TheVariants.{OfSet, Strset}

-- a message that is taken up
abbrev taken : Result Admission Refusal → Bool
taken (Ok A.Skipped) = false
taken (Err why) = false
taken (Ok A.Strset) = true
taken (Ok (A.Admitted command)) = true

-- it has room for its two headers
admitted-long : (m : List ℕ) (h : MessageHeader) (family : ℕ) (admin : Bool) → taken (admitted m h family admin) ≡ true → 20 ≤ length m
unfolding admitted
admitted-long m h family admin = go (ltb h.kind 16 || eqb (h.flags % 2) 0) (not (eqb h.kind family)) (ltb (length m) 20) refl
  where
    go : (a b c : Bool) → ltb (length m) 20 ≡ c
        → taken (cond a (Ok A.Skipped) (cond b (Err R.Family) (cond c (Err R.Short) (on_command (command_of (byte_at m 16)) (strset_permitted h) (permitted h admin))))) ≡ true
        → 20 ≤ length m
    go true b c q e = absurd (clash e refl)
    go false true c q e = absurd (clash e refl)
    go false false true q e = absurd (clash e refl)
    go false false false q e = ltb-false (length m) 20 q

module _ (box : Box) (datagram : List ℕ) (position : ℕ) where
  abbrev m : List ℕ
  m = message_of datagram position

  abbrev stated : ℕ
  stated = u32_at datagram position

  -- a message that is not empty lies in the datagram
  message-inside : 0 < length m → position + stated ≤ length datagram
  unfolding message_of
  message-inside some = ⊎_elim (λ (h : length datagram < position + stated). absurd (none h)) (λ (h : position + stated ≤ length datagram). h) (lt-or-ge (length datagram) (position + stated))
    where
      none : length datagram < position + stated → ⊥
      none h = let e = ap length (part-past datagram position (position + stated) (omega arith) h) in omega (arith, e, some)

  -- the message of a request that is taken up
  module _ (h : MessageHeader) (family : ℕ) (admin : Bool) (up : taken (admitted m h family admin) ≡ true) where
    in-it : position + stated ≤ length datagram
    in-it = let long = admitted-long m h family admin up in message-inside (omega arith)

    is-it : m ≡ take stated (drop position datagram)
    unfolding message_of
    is-it =
        let k : position + stated - position ≡ stated = omega arith in
        sym (part_in datagram position (position + stated) (omega arith) in-it) ∙ ap (λ (n : ℕ). take n (drop position datagram)) k

    size_is : length m ≡ stated
    size_is = ap length is-it ∙ length-take-le stated (drop position datagram) (rw (length-drop position datagram) (omega (arith, in-it)))

    long-enough : 20 ≤ stated
    long-enough = omega (arith, size_is, admitted-long m h family admin up)

  pub request-parts : (h : MessageHeader) (family : ℕ) (admin : Bool) (command : Command) → admitted m h family admin ≡ Ok (A.Admitted command)
      → RequestParts box datagram position command
  request-parts h family admin command e =
      let up = ap taken e in
      record {
        message = is-it h family admin up;
        inside = in-it h family admin up;
        size = size_is h family admin up;
        headers = long-enough h family admin up;
        in_order = apart m 20;
        nested = top_read m box (asks_dump (message_header datagram position)) command;
      }

  pub names-parts : (h : MessageHeader) (family : ℕ) (admin : Bool) → admitted m h family admin ≡ Ok A.Strset → NamesParts datagram position
  names-parts h family admin e =
      let up = ap taken e in
      record {
        message = is-it h family admin up;
        inside = in-it h family admin up;
        size = size_is h family admin up;
        headers = long-enough h family admin up;
        in_order = apart m 20;
        nested = names-read m;
      }

-- what comes past 9 is admitted
admission-number : (m : List ℕ) (h : MessageHeader) (family : ℕ) (admin : Bool) (why : Refusal) → admitted m h family admin ≡ Err why → number_of why ≤ 9
unfolding admitted permitted strset_permitted
admission-number m h family admin why e =
    by (ltb h.kind 16 || eqb (h.flags % 2) 0) (not (eqb h.kind family)) (ltb (length m) 20) (command_of (byte_at m 16)) e
  where
    told : (r : Refusal) → number_of r ≤ 9 → ◌≡◌ {A = Result Admission Refusal} (Err r) (Err why) → number_of why ≤ 9
    told r l e = let q : r ≡ why = cc in rw (← q) l

    permits : (a b : Bool) (c : Command) → cond a (Err R.Dump) (cond b (Err R.Permission) (Ok (A.Admitted c))) ≡ Err why → number_of why ≤ 9
    permits true b c e = told R.Dump (omega arith) e
    permits false true c e = told R.Permission (omega arith) e
    permits false false c e = absurd (let z : ◌≡◌ {A = ℕ} 0 1 = cc in omega arith)

    strset : (t : Bool) → cond t (Err R.Dump) (Ok A.Strset) ≡ Err why → number_of why ≤ 9
    strset true e = told R.Dump (omega arith) e
    strset false e = absurd (let z : ◌≡◌ {A = ℕ} 0 1 = cc in omega arith)

    by : (a b c : Bool) (x : Option Listed)
        → cond a (Ok A.Skipped) (cond b (Err R.Family) (cond c (Err R.Short) (on_command x (strset_permitted h) (permitted h admin)))) ≡ Err why → number_of why ≤ 9
    by true b c x e = absurd (let z : ◌≡◌ {A = ℕ} 0 1 = cc in omega arith)
    by false true c x e = told R.Family (omega arith) e
    by false false true x e = told R.Short (omega arith) e
    by false false false None e = told R.Command (omega arith) e
    by false false false (Some Strset) e = strset (is_dump h) e
    by false false false (Some (OfSet c)) e = permits (no_dump h c) (not_permitted c admin) c e

module _ (box : Box) (stored : Stored) (call : Call) (datagram : List ℕ) (room : ℕ) where
  abbrev header : MessageHeader
  header = message_header datagram call.position

  abbrev message : List ℕ
  message = message_of datagram call.position

  abbrev said : Kind
  said = (bytes_outcome box stored call datagram room).response.kind

  abbrev Parted : Type 0
  Parted =
      ((command : Command) × (admitted message header call.family (eqb call.admin 1) ≡ Ok (A.Admitted command)) × RequestParts box datagram call.position command)
      ⊎ ((admitted message header call.family (eqb call.admin 1) ≡ (Ok A.Strset)) × NamesParts datagram call.position)

  -- what the message comes to is what the call says
  by-admission : (next : ℕ) (a : Result Admission Refusal) → admitted message header call.family (eqb call.admin 1) ≡ a
      → kind (on_admission a box (in_words stored) call message header next) ≡ said → past_nine said ≡ true → Parted
  by-admission next (Ok A.Skipped) e q past = absurd (clash (ap past_nine q ∙ past) refl)
  by-admission next (Err why) e q past =
      let l = leb-true 10 (number_of why) (ap past_nine q ∙ past) in
      let few = admission-number message header call.family (eqb call.admin 1) why e in
      absurd (omega arith)
  by-admission next (Ok A.Strset) e q past = inr (e, names-parts box datagram call.position header call.family (eqb call.admin 1) e)
  by-admission next (Ok (A.Admitted command)) e q past = inl (command, e, request-parts box datagram call.position header call.family (eqb call.admin 1) command e)

  goes_on : (k : Kind) → past_nine k ≡ true → ends_run k ≡ false
  goes_on End e = absurd (clash e refl)
  goes_on Skipped e = refl
  goes_on Done e = refl
  goes_on (Refused why) e = le-ltb (number_of why) 5 (let l = leb-true 10 (number_of why) e in omega arith)

  pub call-parts : past_nine said ≡ true → Parted
  unfolding message_outcome
  call-parts past = by (call-case box (in_words stored) call datagram room)
    where
      same : (outcome box (in_words stored) call datagram room).response ≡ (bytes_outcome box stored call datagram room).response
      same = sym (over-words box stored call datagram room (goes_on said past))

      is : {o : Outcome State} → outcome box (in_words stored) call datagram room ≡ o → o.response.kind ≡ said
      is e = ap (λ (x : Outcome State). x.response.kind) (sym e) ∙ ap (λ (r : Response). r.kind) same

      by : CallCase box (in_words stored) call datagram (outcome box (in_words stored) call datagram room) → Parted
      by (ended e) = absurd (clash (ap past_nine (is e) ∙ past) refl)
      by (not_read why l e) = let g = leb-true 10 (number_of why) (ap past_nine (is e) ∙ past) in absurd (omega arith)
      by (message_answered right lo hi long first c) =
          let next = next_of datagram call.position in
          by-admission next (admitted message header call.family (eqb call.admin 1)) refl
          (message-first box (in_words stored) call message header next ∙ sym first ∙ ap (λ (r : Response). r.kind) same) past
