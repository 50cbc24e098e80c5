-- What C gets back from `ethnl_handle` over all calls of a dump (request C-11).
use Rattle.std.specs.Prelude.{ℕ, ◌+◌, ◌≤◌, ◌<◌, ◌≡◌, List, length}
use Rattle.basics.specs.Numbers.{byte_at}
use Rattle.roll.specs.Record.{port_at}
use Rattle.boxes.specs.Box.{ports_in}
use Rattle.handler.specs.Bytes.{Stored, in_words}
use Rattle.response.specs.Answer.{Response}
use Rattle.demands.specs.Answer.{done_bytes, with_multi}
use Rattle.demands.specs.Call.{next_of}
use Rattle.demands.specs.Message.{DumpAsked}
use Rattle.demands.specs.Done.{reply_about}
use Rattle.demands.specs.Dump.{at_place, HandledGet, AsksOne, RepliesAlike, get_one, call_one}
use Rattle.exported.specs.Returned.{Lent, Left, Leaves, message_in, header_in, Wrote}

-- the same call at a place, with the settings and the page that it finds
abbrev pub lent_at : Lent → (ℕ → Stored) → (ℕ → List ℕ) → ℕ → Lent
lent_at c settings pages k = record { box = c.box; settings = settings k; call = at_place c.call k; datagram = c.datagram; page = pages k }

-- a call that is lent a GET of the port with an index as a datagram of its own, by the same sender, with settings and a page
abbrev pub lent_one : Lent → ℕ → ℕ → Stored → List ℕ → Lent
lent_one c flags index settings page =
    record {
      box = c.box;
      settings = settings;
      call = call_one c.call;
      datagram = get_one (header_in c) (byte_at (message_in c) 16) index flags;
      page = page;
    }

-- two calls wrote the same reply, the second with MULTI
pub record WroteAlike (get : Lent) (got : Left) (lent : Lent) (r : Left) : Type 0 where
  pub reply : List ℕ
  pub get-wrote : Wrote get got reply
  pub dump-wrote : Wrote lent r (with_multi reply)

-- the bytes that are written at a place are a GET's reply but for MULTI, and behind them the page is as before
pub record PortLeft (c : Lent) (dump : DumpAsked (message_in c)) (k : ℕ) (lent : Lent) (r : Left) : Type 0 where
  pub wrote : Wrote lent r (with_multi (reply_about c.box (in_words lent.settings) (header_in c) dump.command dump.flags k))
  pub next : r.next ≡ c.call.position
  pub place : r.place ≡ k + 1

-- all calls of a dump: each is of kind 2 and leaves the settings that it finds; at the place of a port, in roll order, stands the reply about this port over these settings, with MULTI, and
-- the same position and the next place are handed back; it is the reply of every GET of this port, by index or by name, that asks for the same over the same settings, and of the GET by its index
-- that `get_one` makes, which is of kind 2; at the port count stands DONE, and the next call goes on behind the message, at place 0
pub record Dumped (c : Lent) (settings : ℕ → Stored) (pages : ℕ → List ℕ) (left : ℕ → Left) : Type 0 where
  pub dump : DumpAsked (message_in c)
  pub done : (k : ℕ) → k ≤ ports_in c.box → (left k).kind ≡ 2
  pub keeps : (k : ℕ) → k ≤ ports_in c.box → (left k).settings ≡ settings k
  pub port : (k : ℕ) → k < ports_in c.box → PortLeft c dump k (lent_at c settings pages k) (left k)
  pub as-get : (k : ℕ) → k < ports_in c.box → (g : HandledGet c.box (settings k)) → AsksOne g (message_in c) (header_in c) dump k
      → (r : Response) × Wrote (lent_at c settings pages k) (left k) r.bytes × RepliesAlike g r
  pub by_index : (k : ℕ) → k < ports_in c.box → (header_in c).sequence < 4294967296 → (header_in c).port < 4294967296 → (page : List ℕ) (got : Left) → length page ≡ length c.page
      → Leaves (lent_one c dump.flags (port_at c.box.roll k).index (settings k) page) got
      → (got.kind ≡ 2) × WroteAlike (lent_one c dump.flags (port_at c.box.roll k).index (settings k) page) got (lent_at c settings pages k) (left k)
  pub last : Wrote (lent_at c settings pages (ports_in c.box)) (left (ports_in c.box)) (done_bytes (header_in c))
  pub last-next : (left (ports_in c.box)).next ≡ next_of c.datagram c.call.position
  pub last-place : (left (ports_in c.box)).place ≡ 0
