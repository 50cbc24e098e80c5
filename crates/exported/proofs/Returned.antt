-- What C gets back from `ethnl_handle`, from its contract alone.
--     returned    the numbers behind the pointers, the page and the settings are as `Returned` says, whatever was lent
use Prim.Native.Nat.{ℕ, ◌+◌, ◌≤◌}
use mathlib.Core.Path.{◌≡◌, refl, sym, ap, ◌∙◌}
use mathlib.Core.List.{List}
use mathlib.Core.Bool.{Bool, true, false, ◌&&◌, cond}
use mathlib.Core.Logic.{◌⊎◌, inl, inr}
use lib.ListN.{length}
use lib.Dec.{eqb}
use native.Mathlib.Omega.{arith}
use borrow.Author.Tests.{lt-ltb, le-ltb}
use Rattle.basics.specs.Numbers.{byte_at}
use Rattle.basics.specs.Put.{put}
use Rattle.basics.proofs.Put.{put-nil}
use Rattle.refusal.specs.Refusal.{number_of}
use Rattle.refusal.specs.declared.Refusal.{Refusal}
use Rattle.admission.specs.Commands.{command_of}
use Rattle.response.specs.Answer.{Outcome, kind_number, refusal_number}
use Rattle.response.specs.declared.Kind.{Kind}
use Rattle.response.specs.declared.Kind.TheVariants.{End, Skipped, Done, Refused}
use Rattle.handler.specs.Call.{ends_run}
use Rattle.handler.specs.Bytes.{Stored, bytes_outcome}
use Rattle.demands.specs.Check.{AllPass, FirstIs}
use Rattle.demands.specs.Call.{next_of, tells_port}
use Rattle.demands.specs.Request.{is_set, is_strset, asks_dump}
use Rattle.demands.specs.Stored.{DoneSetStored}
use Rattle.demands.proofs.OwnNames.{accepted-own-names}
use Rattle.demands.proofs.Stored as S
use Rattle.exported.specs.Returned.{Lent, Left, Leaves, message_in, header_in, is_port_reply, checks_of, LeftRefused, LeftSet, LeftGet, LeftNames, LeftDump, Returned}

module _ (c : Lent) (r : Left) (h : Leaves c r) where
  abbrev o : Outcome Stored
  o = bytes_outcome c.box c.settings c.call c.datagram (length c.page)

  pub kind-is : {k : Kind} → o.response.kind ≡ k → r.kind ≡ kind_number k
  kind-is e = h.kind ∙ ap kind_number e

  refusal_is : {k : Kind} → o.response.kind ≡ k → r.refusal ≡ refusal_number k
  refusal_is e = h.refusal ∙ ap refusal_number e

  -- the kind of the outcome, from its number
  is-end : r.kind ≡ 0 → o.response.kind ≡ End
  is-end z = go o.response.kind refl
    where
      go : (k : Kind) → o.response.kind ≡ k → k ≡ End
      go End e = refl
      go Skipped e = absurd (omega (arith, z, kind-is e))
      go Done e = absurd (omega (arith, z, kind-is e))
      go (Refused why) e = absurd (omega (arith, z, kind-is e))

  pub is-done : r.kind ≡ 2 → o.response.kind ≡ Done
  is-done z = go o.response.kind refl
    where
      go : (k : Kind) → o.response.kind ≡ k → k ≡ Done
      go End e = absurd (omega (arith, z, kind-is e))
      go Skipped e = absurd (omega (arith, z, kind-is e))
      go Done e = refl
      go (Refused why) e = absurd (omega (arith, z, kind-is e))

  is-refused : r.kind ≡ 3 → (why : Refusal) × (o.response.kind ≡ Refused why)
  is-refused z = go o.response.kind refl
    where
      go : (k : Kind) → o.response.kind ≡ k → (why : Refusal) × (k ≡ Refused why)
      go End e = absurd (omega (arith, z, kind-is e))
      go Skipped e = absurd (omega (arith, z, kind-is e))
      go Done e = absurd (omega (arith, z, kind-is e))
      go (Refused why) e = (why, refl)

  is-quiet : r.kind ≤ 1 → (o.response.kind ≡ End) ⊎ (o.response.kind ≡ Skipped)
  is-quiet l = go o.response.kind refl
    where
      go : (k : Kind) → o.response.kind ≡ k → (k ≡ End) ⊎ (k ≡ Skipped)
      go End e = inl refl
      go Skipped e = inr refl
      go Done e = absurd (omega (arith, l, kind-is e))
      go (Refused why) e = absurd (omega (arith, l, kind-is e))

  pub wrote : (bytes : List ℕ) → o.response.bytes ≡ bytes → (r.page ≡ put c.page bytes) × (r.written ≡ length bytes)
  wrote bytes e = (h.page ∙ ap (put c.page) e, h.count ∙ ap length e)

  refused-left : r.kind ≡ 3 → LeftRefused c r
  refused-left z =
      let is = is-refused z in
      let kept = S.refused-keeps c.box c.settings c.call c.datagram (length c.page) h.bytes is.0 is.1 in
      record {
        why = is.0;
        first = (S.refused-exactly c.box c.settings c.call c.datagram (length c.page) is.0).0 is.1;
        number = refusal_is is.1;
        settings = h.state ∙ kept.0;
        wrote = wrote _ kept.1;
      }

  refused-back : (why : Refusal) → FirstIs why (checks_of c) → (r.kind ≡ 3) × (r.refusal ≡ number_of why)
  refused-back why first =
      let e = (S.refused-exactly c.box c.settings c.call c.datagram (length c.page) why).1 first in
      (kind-is e, refusal_is e)

  unrefused : r.kind ≤ 2 → r.refusal ≡ 0
  unrefused l = go o.response.kind refl
    where
      go : (k : Kind) → o.response.kind ≡ k → r.refusal ≡ 0
      go End e = refusal_is e
      go Skipped e = refusal_is e
      go Done e = refusal_is e
      go (Refused why) e = absurd (omega (arith, l, kind-is e))

  quiet : r.kind ≤ 1 → (r.settings ≡ c.settings) × (r.page ≡ c.page) × (r.written ≡ 0)
  quiet l =
      let kept = S.skipped-keeps c.box c.settings c.call c.datagram (length c.page) h.bytes (is-quiet l) in
      let w = wrote _ kept.1 in
      (h.state ∙ kept.0, w.0 ∙ put-nil c.page, w.1)

  set-left : r.kind ≡ 2 → is_set (command_of (byte_at (message_in c) 16)) ≡ true → LeftSet c r
  set-left z set =
      let e = S.effect c.box c.settings c.call c.datagram (length c.page) h.bytes (is-done z) set in
      let d : DoneSetStored c.box c.settings c.call (message_in c) (header_in c) (record { response = o.response; state = r.settings }) =
      rw h.state e in
      record {
        response = o.response;
        done = d;
        own-names = accepted-own-names _ _ _ d.done.bits d.done.carries;
        wrote = wrote _ refl;
      }

  get_left : r.kind ≡ 2 → is_set (command_of (byte_at (message_in c) 16)) ≡ false → is_strset (command_of (byte_at (message_in c) 16)) ≡ false → asks_dump (header_in c) ≡ false → LeftGet c r
  get_left z get other one =
      let back = S.read_back c.box c.settings c.call c.datagram (length c.page) h.bytes (is-done z) get other one in
      record { response = o.response; settings = h.state ∙ back.0; done = rw h.state back.1; wrote = wrote _ refl }

  names-left : r.kind ≡ 2 → is_strset (command_of (byte_at (message_in c) 16)) ≡ true → LeftNames c r
  names-left z asks =
      let told = S.strset-done c.box c.settings c.call c.datagram (length c.page) h.bytes (is-done z) asks in
      record { response = o.response; settings = h.state ∙ told.0; done = rw h.state told.1; wrote = wrote _ refl }

  dump-left : r.kind ≡ 2 → asks_dump (header_in c) ≡ true → LeftDump c r
  dump-left z all =
      let told = S.dump c.box c.settings c.call c.datagram (length c.page) h.bytes (is-done z) all in
      record {
        response = o.response;
        settings = h.state ∙ told.0;
        done = rw h.state told.1;
        wrote = wrote _ refl;
        next = h.next;
        place = h.place;
      }

  -- whether it is a port's reply, by the number of the kind
  port-reply : tells_port c.box c.call c.datagram o.response.kind ≡ is_port_reply c r
  unfolding tells_port
  port-reply = go o.response.kind ∙ ap (λ (n : ℕ). eqb n 2 && tells_port c.box c.call c.datagram Done) (sym h.kind)
    where
      go : (k : Kind) → tells_port c.box c.call c.datagram k ≡ eqb (kind_number k) 2 && tells_port c.box c.call c.datagram Done
      go End = refl
      go Skipped = refl
      go Done = refl
      go (Refused why) = refl

  place-left : r.place ≡ cond (is_port_reply c r) (c.call.place + 1) 0
  place-left =
      h.place ∙ S.place_is c.box c.settings c.call c.datagram (length c.page) ∙ ap (λ (t : Bool). cond t (c.call.place + 1) 0) port-reply

  -- where to go on
  stays_at : ends_run o.response.kind ≡ true → r.next ≡ c.call.position
  stays_at e = h.next ∙ S.last-in-place c.box c.settings c.call c.datagram (length c.page) e

  silent : r.kind ≡ 3 → r.refusal ≤ 4 → r.next ≡ c.call.position
  silent z l =
      let is = is-refused z in
      stays_at (ap ends_run is.1 ∙ lt-ltb (number_of is.0) 5 (let n = refusal_is is.1 in omega arith))

  goes_on : 1 ≤ r.kind → (r.kind ≡ 3 → 5 ≤ r.refusal) → r.next ≡ cond (is_port_reply c r) c.call.position (next_of c.datagram c.call.position)
  goes_on l late =
      h.next ∙ S.next-is c.box c.settings c.call c.datagram (length c.page) (go o.response.kind refl)
      ∙ ap (λ (t : Bool). cond t c.call.position (next_of c.datagram c.call.position)) port-reply
    where
      go : (k : Kind) → o.response.kind ≡ k → ends_run k ≡ false
      go End e = absurd (omega (arith, l, kind-is e))
      go Skipped e = refl
      go Done e = refl
      go (Refused why) e = le-ltb (number_of why) 5 (let n = refusal_is e in let m = late (kind-is e) in omega arith)

  kinds : r.kind ≤ 3
  kinds = go o.response.kind refl
    where
      go : (k : Kind) → o.response.kind ≡ k → r.kind ≤ 3
      go End e = omega (arith, kind-is e)
      go Skipped e = omega (arith, kind-is e)
      go Done e = omega (arith, kind-is e)
      go (Refused why) e = omega (arith, kind-is e)

  done-exactly : (r.kind ≡ 2 → AllPass (checks_of c)) × (AllPass (checks_of c) → r.kind ≡ 2)
  done-exactly =
      let exactly = S.done-exactly c.box c.settings c.call c.datagram (length c.page) in
      (λ z. exactly.0 (is-done z), λ all. kind-is (exactly.1 all))

  pub returned : Returned c r
  returned =
      record {
        kinds = kinds;
        done-exactly = done-exactly;
        refused = refused-left;
        refused-back = refused-back;
        unrefused = unrefused;
        quiet = quiet;
        set = set-left;
        get = get_left;
        names = names-left;
        dump = dump-left;
        stays = (λ z. stays_at (ap ends_run (is-end z)), silent);
        goes_on = goes_on;
        place = place-left;
      }
