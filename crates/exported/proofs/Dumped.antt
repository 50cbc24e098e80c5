-- What C gets back from `ethnl_handle` over all calls of a dump, from its contract alone.
--     dumped    whatever settings and pages the calls find, if the pages are of one length, the settings keep the rules and the first call is of kind 2, all are as `Dumped` says
use Prim.Native.Nat.{ℕ, ◌<◌}
use mathlib.Core.Path.{◌≡◌, refl, sym, ap, ◌∙◌}
use mathlib.Core.List.{List}
use mathlib.Core.Bool.{true}
use lib.ListN.{length}
use Rattle.boxes.specs.Box.{ports_in}
use Rattle.response.specs.Answer.{Outcome, kind_number}
use Rattle.handler.specs.Bytes.{Stored, bytes_outcome}
use Rattle.demands.specs.BoxRules.{StoredRules}
use Rattle.demands.specs.Request.{asks_dump}
use Rattle.roll.specs.Record.{port_at}
use Rattle.demands.specs.Dump.{at_place, call_one, WholeDump}
use Rattle.demands.proofs.BoxRules.{stored-exactly}
use Rattle.demands.proofs.Dump.{whole-dump}
use Rattle.exported.specs.Returned.{Lent, Left, Leaves, header_in, Wrote}
use Rattle.exported.specs.Dumped.{lent_at, lent_one, WroteAlike, Dumped}
use Rattle.exported.proofs.Returned.{is-done, wrote}

module _ (c : Lent) (settings : ℕ → Stored) (pages : ℕ → List ℕ) (left : ℕ → Left) (leaves : (k : ℕ) → Leaves (lent_at c settings pages k) (left k))
    (sizes : (k : ℕ) → length (pages k) ≡ length c.page) (rules : (k : ℕ) → StoredRules c.box (settings k) (at_place c.call 0))
    (all : asks_dump (header_in c) ≡ true) (begun : (left 0).kind ≡ 2) where
  abbrev lent : ℕ → Lent
  lent = lent_at c settings pages

  -- the outcome at a place: the pages are of one length
  abbrev answer : ℕ → Outcome Stored
  answer k = bytes_outcome c.box (settings k) (at_place c.call k) c.datagram (length c.page)

  same : (k : ℕ) → bytes_outcome c.box (settings k) (at_place c.call k) c.datagram (length (pages k)) ≡ answer k
  same k = ap (bytes_outcome c.box (settings k) (at_place c.call k) c.datagram) (sizes k)

  whole : WholeDump c.box c.call c.datagram (length c.page) settings
  whole =
      whole-dump c.box c.call c.datagram (length c.page) settings (λ k. (leaves k).bytes)
      (λ k. (stored-exactly c.box (settings k) (at_place c.call 0)).1 (rules k)) all
      (ap (λ (o : Outcome Stored). o.response.kind) (sym (same 0)) ∙ is-done (lent 0) (left 0) (leaves 0) begun)

  -- what the pointers tell of it
  told : {A : Type 0} (k : ℕ) (f : Outcome Stored → A) {x y : A} → x ≡ f (bytes_outcome c.box (settings k) (at_place c.call k) c.datagram (length (pages k))) → f (answer k) ≡ y → x ≡ y
  told k f e q = e ∙ ap f (same k) ∙ q

  written : (k : ℕ) {bytes : List ℕ} → (answer k).response.bytes ≡ bytes → Wrote (lent k) (left k) bytes
  written k e = wrote (lent k) (left k) (leaves k) _ (ap (λ (o : Outcome Stored). o.response.bytes) (same k) ∙ e)

  -- the GET by index
  by_index : (k : ℕ) → k < ports_in c.box → (header_in c).sequence < 4294967296 → (header_in c).port < 4294967296 → (page : List ℕ) (got : Left) → length page ≡ length c.page
      → Leaves (lent_one c whole.dump.flags (port_at c.box.roll k).index (settings k) page) got
      → (got.kind ≡ 2) × WroteAlike (lent_one c whole.dump.flags (port_at c.box.roll k).index (settings k) page) got (lent k) (left k)
  by_index k l sequence port-id page got size leave =
      let alike = whole.by_index k l sequence port-id in
      let get = lent_one c whole.dump.flags (port_at c.box.roll k).index (settings k) page in
      let one : ℕ → Outcome Stored = bytes_outcome c.box (settings k) (call_one c.call) get.datagram in (
        leave.kind ∙ ap (λ (n : ℕ). kind_number (one n).response.kind) size ∙ ap kind_number alike.done,
        record {
          reply = (one (length c.page)).response.bytes;
          get-wrote = wrote get got leave _ (ap (λ (n : ℕ). (one n).response.bytes) size);
          dump-wrote = written k alike.bytes;
        },
      )

  pub dumped : Dumped c settings pages left
  dumped =
      let ports = ports_in c.box in
      record {
        dump = whole.dump;
        done = λ k few. told k (λ o. kind_number o.response.kind) (leaves k).kind (ap kind_number (whole.done k few));
        keeps = λ k few. told k (λ o. o.state) (leaves k).state (whole.keeps k few);
        port =
            λ k l. record {
              wrote = written k (whole.port k l).bytes;
              next = told k (λ o. o.response.next) (leaves k).next (whole.port k l).next;
              place = told k (λ o. o.response.place) (leaves k).place (whole.port k l).place;
            };
        as-get = λ k l g asks. ((answer k).response, written k refl, whole.as-get k l g asks);
        by_index = by_index;
        last = written ports whole.last.bytes;
        last-next = told ports (λ o. o.response.next) (leaves ports).next whole.last.next-is;
        last-place = told ports (λ o. o.response.place) (leaves ports).place whole.last.place;
      }
