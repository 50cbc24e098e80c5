-- The theorems of the exported handler, which is lent the settings as bytes: what `Exact`, `Demand1`, `Demand2` and `Normaliser` show over words. That the
-- settings are bytes is asked only where a theorem says that they stay.
--     exact            the kind is that of the first check, in document 01's order, that does not pass; it is done where all pass
--     done-exactly     done exactly when every check passes
--     refused-exactly  refused by a row of the table exactly when that row applies and every check before it passes
--     refused-keeps    a refusal leaves every byte of the settings, and writes its error message (from 5 on) or nothing (1 to 4)
--     skipped-keeps    so do the end and a skipped message, and they write nothing
--     last-in-place    the end and 1 to 4 give the position back
--     next-is          every other call goes on after the message's step, or at the datagram's end where that is nearer
--     moves            so it moves on, by at least a header and not past the datagram's end
--     run_ends         so a run over a datagram ends, wherever it starts
--     effect           a done SET: the named set of the named port is what `effect` makes of it, every other byte is as before
--     read_back        a done GET: every byte of the settings stays, and the reply's bitset makes the stored set of every starting set
--     strset-done      a done STRSET_GET: every byte of the settings stays, and the reply, read by a client, tells each asked set once and in order, with every entry
--     box-kept         a right box stays right, whatever is asked
--     bytes-kept       settings that are bytes stay bytes
--     bytes_counted    what is written is whole messages, each as long as it states, and never more than 24,684 bytes, of a STRSET_GET 32,768
--     set-alike        a SET that comes to its bitset is done where the normaliser answers 0, and refused by the number by which that refuses
use Prim.Native.Nat.{ℕ, suc, ◌+◌, ◌*◌, ◌/◌, ◌%◌, ◌≤◌, ◌<◌}
use mathlib.Core.Path.{◌≡◌, refl, sym, ap, ◌∙◌}
use mathlib.Core.List.{List, []}
use mathlib.Core.Bool.{Bool, true, false, cond}
use mathlib.Core.Logic.{◌⊎◌, inl, inr, ⊎_elim}
use lib.ListN.{length, get_or}
use lib.Dec.{eqb}
use native.Mathlib.Omega.{arith}
use borrow.Author.Tests.{eq-eqb, eqb-true}
use Rattle.basics.specs.Numbers.{byte_at}
use Rattle.basics.proofs.Truth.{true_of, false_of, clash, both_true}
use Rattle.word_bytes.specs.Bytes.{words_in, Bytes}
use Rattle.word_bytes.proofs.WordBytes.{length-words_in, words-of-bytes}
use Rattle.word_bytes.proofs.Stored.{bytes_small, words_small, bytes-again, same_bytes}
use Rattle.netlink_headers.specs.Headers.{message_header}
use Rattle.netlink_headers.specs.declared.headers.MessageHeader.{MessageHeader}
use Rattle.refusal.specs.declared.Refusal.{Refusal}
use Rattle.refusal.specs.declared.Refusal.TheVariants as R
use Rattle.boxes.specs.Box.{Box, State, place_in, width_in}
use Rattle.boxes.specs.declared.Call.{Call}
use Rattle.boxes.specs.Rule.{box_right}
use Rattle.boxes.proofs.rule.Meaning.{box-means}
use Rattle.admission.specs.Admission.{admitted}
use Rattle.admission.specs.Commands.{command_of}
use Rattle.response.specs.Answer.{Outcome, Response, no_bytes, unchanged}
use Rattle.response.specs.declared.Kind.TheVariants.{End, Skipped, Done, Refused}
use Rattle.handler.specs.Call.{outcome, ends_run}
use Rattle.handler.specs.Bytes.{Stored, in_words, as_stored, words_outcome, are_words, bytes_outcome}
use Rattle.demands.specs.Answer.{refusal_bytes, CountedTo, longest_answer}
use Rattle.demands.specs.Check.{Check, refuse_if, first_kind, AllPass, FirstIs}
use Rattle.demands.specs.Call.{message_of, next_of, call_checks, tells_port, next_after, place_after}
use Rattle.demands.specs.Message.{Named}
use Rattle.demands.specs.Normaliser.{AnsweredAlike}
use Rattle.demands.specs.Request.{is_set, is_strset, asks_dump}
use Rattle.demands.specs.Run.{MovesOn, ends_within}
use Rattle.demands.specs.Done.{DoneSet, DoneGet, DoneDump, DoneStrset}
use Rattle.demands.specs.Stored.{stored_right, as_words, DoneSetStored}
use Rattle.demands.proofs.First.{first_done, done_first, first-refused, refused-first}
use Rattle.demands.proofs.Count.{none-counted, within-longest}
use Rattle.demands.proofs.Demand1 as D1
use Rattle.demands.proofs.Demand2 as D2
use Rattle.demands.proofs.Exact as E
use Rattle.demands.proofs.Normaliser as N
use Rattle.demands.proofs.Run.{moving-ends}
use Rattle.demands.proofs.StoredBox.{right-whole, right-box, right-within, right-again}
use Rattle.std.specs.Prelude.{Ok}
use Rattle.admission.specs.declared.Admission.TheVariants.{Admitted}

-- the call over bytes: the call over their words, or refusal 1
data StoredCase (box : Box) (stored : Stored) (call : Call) (datagram : List ℕ) (room : ℕ) (o : Outcome Stored) : Type 0 where
  whole : length stored.settings % 4 ≡ 0 → stored_right box stored call ≡ box_right box (in_words stored) call
      → o ≡ words_outcome box stored call datagram room → StoredCase box stored call datagram room o
  broken : stored_right box stored call ≡ false → o ≡ unchanged (no_bytes (Refused R.Box) call.position) stored
      → StoredCase box stored call datagram room o

module _ (box : Box) (stored : Stored) (call : Call) (datagram : List ℕ) (room : ℕ) where
  abbrev position : ℕ
  position = call.position

  abbrev o : Outcome Stored
  o = bytes_outcome box stored call datagram room

  -- the outcome over the words
  abbrev w : Outcome State
  w = outcome box (in_words stored) call datagram room

  abbrev m : List ℕ
  m = message_of datagram position

  abbrev h : MessageHeader
  h = message_header datagram position

  abbrev Case : Type 0
  Case = StoredCase box stored call datagram room o

  words-whole : are_words stored.settings ≡ true → length stored.settings % 4 ≡ 0
  unfolding are_words
  words-whole e = eqb-true _ _ (both_true (eqb (length stored.settings % 4) 0) _ e).0

  rightly : length stored.settings % 4 ≡ 0 → stored_right box stored call ≡ box_right box (in_words stored) call
  unfolding stored_right
  rightly e = rw (eq-eqb _ _ e)

  not_right : are_words stored.settings ≡ false → stored_right box stored call ≡ false
  not_right e = false_of (stored_right box stored call) (λ right. clash (right-within box stored call right) e)

  stored-case : Case
  unfolding bytes_outcome
  stored-case = go (are_words stored.settings) refl
    where
      go : (t : Bool) → are_words stored.settings ≡ t
          → StoredCase box stored call datagram room
          (cond t (words_outcome box stored call datagram room) (unchanged (no_bytes (Refused R.Box) position) stored))
      go true e = whole (words-whole e) (rightly (words-whole e)) refl
      go false e = broken (not_right e) refl

  -- what is said over words is said over bytes
  response-is : o ≡ words_outcome box stored call datagram room → o.response ≡ w.response
  unfolding words_outcome
  response-is e = ap (λ (x : Outcome Stored). x.response) e

  state-is : o ≡ words_outcome box stored call datagram room → o.state ≡ as_stored w.state
  unfolding words_outcome
  state-is e = ap (λ (x : Outcome Stored). x.state) e

  response-of : {p : Outcome Stored} → o ≡ p → o.response ≡ p.response
  response-of e = ap (λ (x : Outcome Stored). x.response) e

  -- the checks
  abbrev checks : List Check
  checks = call_checks (stored_right box stored call) box call datagram room

  broken-kind : stored_right box stored call ≡ false → first_kind Done checks ≡ Refused R.Box
  unfolding call_checks refuse_if first_kind
  broken-kind wrong = ap (λ (t : Bool). first_kind Done (call_checks t box call datagram room)) wrong

  pub exact : o.response.kind ≡ first_kind Done checks
  exact = by stored-case
    where
      by : Case → o.response.kind ≡ first_kind Done checks
      by (whole e right q) =
          ap (λ (r : Response). r.kind) (response-is q) ∙ E.exact box (in_words stored) call datagram room
          ∙ ap (λ (t : Bool). first_kind Done (call_checks t box call datagram room)) (sym right)
      by (broken wrong q) =
          ap (λ (r : Response). r.kind) (response-of q) ∙ sym (broken-kind wrong)

  pub done-exactly : (o.response.kind ≡ Done → AllPass checks) × (AllPass checks → o.response.kind ≡ Done)
  done-exactly = (λ e. first_done checks (sym exact ∙ e), λ a. exact ∙ done_first a)

  pub refused-exactly : (why : Refusal)
      → (o.response.kind ≡ Refused why → FirstIs why checks) × (FirstIs why checks → o.response.kind ≡ Refused why)
  refused-exactly why = (λ e. first-refused why checks (sym exact ∙ e), λ f. exact ∙ refused-first why f)

  -- the response alone
  pub bytes_counted : CountedTo (longest_answer (is_strset (command_of (byte_at m 16)))) o.response.bytes
  bytes_counted = by stored-case
    where
      by : Case → CountedTo (longest_answer (is_strset (command_of (byte_at m 16)))) o.response.bytes
      by (whole e right q) = rw (ap (λ (r : Response). r.bytes) (response-is q)) (D2.bytes_counted box (in_words stored) call datagram room)
      by (broken wrong q) = rw (ap (λ (r : Response). r.bytes) (response-of q)) (within-longest _ none-counted)

  pub last-in-place : ends_run o.response.kind ≡ true → o.response.next ≡ position
  last-in-place = by stored-case
    where
      by : Case → ends_run o.response.kind ≡ true → o.response.next ≡ position
      by (whole e right q) over = rw (response-is q) (D1.last-in-place box (in_words stored) call datagram room (rw (response-is q) at over))
      by (broken wrong q) over = ap (λ (r : Response). r.next) (response-of q)

  pub place_is : o.response.place ≡ place_after box call datagram o.response.kind
  unfolding tells_port
  place_is = by stored-case
    where
      by : Case → o.response.place ≡ place_after box call datagram o.response.kind
      by (whole e right q) = rw (response-is q) (D1.place_is box (in_words stored) call datagram room)
      by (broken wrong q) = rw (response-of q) refl

  module _ (going : ends_run o.response.kind ≡ false) where
    pub over-words : o.response ≡ w.response
    over-words = by stored-case
      where
        by : Case → o.response ≡ w.response
        by (whole e right q) = response-is q
        by (broken wrong q) = absurd (clash (ap (λ (r : Response). ends_run r.kind) (response-of q)) going)

    goes : ends_run w.response.kind ≡ false
    goes = rw over-words at going

    pub next-is : o.response.next ≡ next_after box call datagram o.response.kind
    next-is = rw over-words (D1.next-is box (in_words stored) call datagram room goes)

    pub set-alike : (n : Named box.roll m) → n.command.change ≡ true → admitted m h call.family (eqb call.admin 1) ≡ Ok (Admitted n.command)
        → (page : ℕ) → 144 ≤ page → AnsweredAlike box m n page o.response.kind
    set-alike n change admit page wide = rw over-words (N.set-alike box (in_words stored) call datagram room goes n change admit page wide)

    pub moves : MovesOn (length datagram) call o.response
    moves = rw over-words (D1.moves box (in_words stored) call datagram room goes)

  -- the settings
  pub box-kept : stored_right box stored call ≡ true → stored_right box o.state call ≡ true
  box-kept right = by stored-case
    where
      by : Case → stored_right box o.state call ≡ true
      by (whole e same q) =
          rw (state-is q) (right-again box w.state call (D2.box-kept box (in_words stored) call datagram room (sym same ∙ right)))
      by (broken wrong q) = absurd (clash right wrong)

  module _ (bytes : Bytes stored.settings) where
    -- where no word changes, no byte does
    kept : length stored.settings % 4 ≡ 0 → o ≡ words_outcome box stored call datagram room → w.state ≡ in_words stored → o.state ≡ stored
    kept e q same =
        state-is q ∙ ap as_stored same ∙ ap (λ (s : List ℕ). record { settings = s }) (bytes-again stored.settings bytes e)

    pub bytes-kept : Bytes o.state.settings
    bytes-kept = by stored-case
      where
        by : Case → Bytes o.state.settings
        by (whole e right q) = rw (ap (λ (x : Stored). x.settings) (state-is q)) (bytes_small w.state.words)
        by (broken wrong q) = rw (ap (λ (x : Outcome Stored). x.state.settings) q) bytes

    pub refused-keeps : (why : Refusal) → o.response.kind ≡ Refused why → (o.state ≡ stored) × (o.response.bytes ≡ refusal_bytes m why)
    unfolding refusal_bytes
    refused-keeps why = by stored-case
      where
        by : Case → o.response.kind ≡ Refused why → (o.state ≡ stored) × (o.response.bytes ≡ refusal_bytes m why)
        by (whole e right q) kind-of =
            let said = response-is q in
            let r = D1.refused-keeps box (in_words stored) call datagram room why (rw said at kind-of) in
            (kept e q r.0, ap (λ (x : Response). x.bytes) said ∙ r.1)
        by (broken wrong q) kind-of =
            let said = response-of q in
            let box-is : R.Box ≡ why = let k = sym (ap (λ (x : Response). x.kind) said) ∙ kind-of in cc in
            (ap (λ (x : Outcome Stored). x.state) q, ap (λ (x : Response). x.bytes) said ∙ ap (refusal_bytes m) box-is)

    pub skipped-keeps : (o.response.kind ≡ End) ⊎ (o.response.kind ≡ Skipped) → (o.state ≡ stored) × (o.response.bytes ≡ [])
    skipped-keeps kind-of = by stored-case
      where
        by : Case → (o.state ≡ stored) × (o.response.bytes ≡ [])
        by (whole e right q) =
            let said = response-is q in
            let s = D1.skipped-keeps box (in_words stored) call datagram room (rw said at kind-of) in
            (kept e q s.0, ap (λ (x : Response). x.bytes) said ∙ s.1)
        by (broken wrong q) = (ap (λ (x : Outcome Stored). x.state) q, ap (λ (x : Response). x.bytes) (response-of q))

    -- a done call, which is one over words
    module _ (kind-of : o.response.kind ≡ Done) where
      right : stored_right box stored call ≡ true
      right = true_of (stored_right box stored call) (λ wrong. not_done (sym (broken-kind wrong) ∙ sym exact ∙ kind-of))
        where
          not_done : Refused R.Box ≡ Done → ⊥
          not_done e = let z : ◌≡◌ {A = ℕ} 0 1 = cc in omega arith

      is-words : o ≡ words_outcome box stored call datagram room
      is-words = by stored-case
        where
          by : Case → o ≡ words_outcome box stored call datagram room
          by (whole e same q) = q
          by (broken wrong q) = absurd (clash right wrong)

      done-words : w.response.kind ≡ Done
      done-words = sym (ap (λ (r : Response). r.kind) (response-is is-words)) ∙ kind-of

      as-words : as_words o ≡ w
      unfolding words_outcome
      as-words =
          ap as_words is-words
          ∙ ap (λ (ws : List ℕ). record { response = w.response; state = record { words = ws } })
          (words-of-bytes w.state.words (D2.small-kept box (in_words stored) call datagram room (words_small stored.settings bytes)))

      right-after : stored_right box o.state call ≡ true
      right-after = box-kept right

      size : length o.state.settings ≡ length stored.settings
      size =
          let before = (box-means box (in_words stored) call (right-box box stored call right)).settings.exact in
          let after = (box-means box (in_words o.state) call (right-box box o.state call right-after)).settings.exact in
          let Whole-before = right-whole box stored call right in
          let whole-after = right-whole box o.state call right-after in
          omega (arith, length-words_in stored.settings, length-words_in o.state.settings)

      -- a byte stays where its word does
      byte-stays : (k : ℕ) → get_or (words_in o.state.settings) (k / 4) 0 ≡ get_or (words_in stored.settings) (k / 4) 0
          → get_or o.state.settings k 0 ≡ get_or stored.settings k 0
      byte-stays k same =
          let long : length (words_in o.state.settings) ≡ length (words_in stored.settings) =
          length-words_in o.state.settings ∙ ap (λ (n : ℕ). n / 4) size ∙ sym (length-words_in stored.settings) in
          ap (λ (s : List ℕ). get_or s k 0) (sym (bytes-again o.state.settings bytes-kept (right-whole box o.state call right-after)))
          ∙ same_bytes (words_in o.state.settings) (words_in stored.settings) long k same
          ∙ ap (λ (s : List ℕ). get_or s k 0) (bytes-again stored.settings bytes (right-whole box stored call right))

      stored-done : DoneSet box (in_words stored) call m h (as_words o) → DoneSetStored box stored call m h o
      stored-done d =
          let place = place_in box d.named.target.position d.named.command.set in
          let width = width_in box d.named.command.set in
          record {
            done = d;
            size = size;
            elsewhere =
                λ k out. byte-stays k
                (d.elsewhere (k / 4) (⊎_elim (λ (l : k < place * 4). inl (omega arith)) (λ (l : (place + width) * 4 ≤ k). inr (omega arith)) out));
            right = right-after;
          }

      pub effect : is_set (command_of (byte_at m 16)) ≡ true → DoneSetStored box stored call m h o
      effect request = stored-done (rw as-words (D2.effect box (in_words stored) call datagram room done-words request))

      pub read_back : is_set (command_of (byte_at m 16)) ≡ false → is_strset (command_of (byte_at m 16)) ≡ false → asks_dump h ≡ false → (o.state ≡ stored) × DoneGet box (in_words stored) m h (as_words o)
      read_back request other one =
          let d = D2.read_back box (in_words stored) call datagram room done-words request other one in
          (kept (right-whole box stored call right) is-words d.keeps, rw as-words d)

      pub strset-done : is_strset (command_of (byte_at m 16)) ≡ true → (o.state ≡ stored) × DoneStrset box (in_words stored) m h (as_words o)
      strset-done request =
          let d = D2.strset-done box (in_words stored) call datagram room done-words request in
          (kept (right-whole box stored call right) is-words d.keeps, rw as-words d)

      pub dump : asks_dump h ≡ true → (o.state ≡ stored) × DoneDump box (in_words stored) call m h (next_of datagram position) (as_words o)
      dump all =
          let d = D2.dump box (in_words stored) call datagram room done-words all in
          (kept (right-whole box stored call right) is-words d.keeps, rw as-words d)

-- calls one after the other
pub run_ends : (box : Box) (datagram : List ℕ) (room : ℕ) (stored : Stored) (call : Call)
    → ends_within (λ (s : Stored) (c : Call). bytes_outcome box s c datagram room) (suc (length datagram) * 65) stored call ≡ true
run_ends box datagram room =
    moving-ends (λ (s : Stored) (c : Call). bytes_outcome box s c datagram room) (length datagram) (λ s c going. moves box s c datagram room going)
