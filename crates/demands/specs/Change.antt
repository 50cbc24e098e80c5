-- Demand 3, "the normal form changes it to the set that demand 2 gives with the original": what a done SET changed, as `ethnl_handle` handled it, beside
-- what `ethnl_normalise` answers to the payload of its bitset.
use Rattle.std.specs.Prelude.{ℕ, ◌≡◌, List, Bool}
use Rattle.bits.specs.Set.{has}
use Rattle.bits.specs.Change.{Same}
use Rattle.entries.specs.Entry.{count}
use Rattle.netlink_attributes.specs.Attributes.{part_of}
use Rattle.netlink_headers.specs.Headers.{message_header}
use Rattle.netlink_headers.specs.declared.headers.MessageHeader.{MessageHeader}
use Rattle.bitset_form.specs.Bitset.{Bitset, effect}
use Rattle.bitset_form.specs.Bitset.Reading.{accepted}
use Rattle.bitset.specs.Judge.{bitset_reading}
use Rattle.normal.specs.Normal.{normal_form, normalised}
use Rattle.normal.specs.Claims.{ActAlike}
use Rattle.layout.specs.Layout.{list_of}
use Rattle.boxes.specs.Box.{Box, State, set_of}
use Rattle.boxes.specs.declared.Call.{Call}
use Rattle.response.specs.Answer.{Outcome}
use Rattle.response.specs.declared.Kind.TheVariants.{Done}
use Rattle.handler.specs.Bytes.{Stored, bytes_outcome}
use Rattle.demands.specs.Call.{message_of}
use Rattle.demands.specs.Done.{DoneSet}
use Rattle.demands.specs.Stored.{DoneSetStored}

-- a change: the payload that asked for it, the bitset that it was read as, the set that was found and the set that was left
pub record Change : Type 0 where
  pub payload : List ℕ
  pub bits : Bitset
  pub before : ℕ → Bool
  pub after : ℕ → Bool

-- what a done SET changed: the named set of the named port
abbrev pub change_of : {box : Box} {state : State} {call : Call} {m : List ℕ} {h : MessageHeader} {o : Outcome State} → DoneSet box state call m h o → Change
change_of {box} {state} {call} {m} {h} {o} d =
    record {
      payload = part_of m d.named.parts.bitset.start d.named.parts.bitset.end;
      bits = d.bits;
      before = has (set_of box state d.named.target.position d.named.command.set);
      after = has (set_of box o.state d.named.target.position d.named.command.set);
    }

-- the normaliser, given the payload and the names of the set, answers 0 and writes the normal form of the very bitset that was carried out; that form
-- is itself accepted, and makes of the set that was found the set that was left
pub record NormalisedAs (names : List ℕ) (page : ℕ) (x : Change) : Type 0 where
  pub answer : normalised x.payload names page ≡ record { number = 0; bytes = normal_form (count names) x.bits }
  pub form : Bitset
  pub reads : bitset_reading (normalised x.payload names page).bytes 0 names ≡ accepted form
  pub makes : Same x.after (effect form x.before)

-- the normaliser writes the same bytes for the payloads of both
abbrev pub SameForm : List ℕ → ℕ → Change → Change → Type 0
SameForm names page x y = (normalised x.payload names page).bytes ≡ (normalised y.payload names page).bytes

-- two changes over one list of names: the same bytes are written exactly when their bitsets change every starting set alike; and then, where both found
-- the same set, both left the same
pub record SameChange (names : List ℕ) (page : ℕ) (x y : Change) : Type 0 where
  pub alike : SameForm names page x y → ActAlike (count names) x.bits y.bits
  pub back : ActAlike (count names) x.bits y.bits → SameForm names page x y
  pub same : SameForm names page x y → Same x.before y.before → Same x.after y.after

-- a done SET of a set with these names, as `ethnl_handle` handled it
pub record HandledSet (names : List ℕ) : Type 0 where
  pub box : Box
  pub stored : Stored
  pub call : Call
  pub datagram : List ℕ
  pub room : ℕ
  pub done : (bytes_outcome box stored call datagram room).response.kind ≡ Done
  pub set : DoneSetStored box stored call (message_of datagram call.position) (message_header datagram call.position) (bytes_outcome box stored call datagram room)
  pub over : list_of box.names set.done.named.command.set ≡ names

-- what it changed
abbrev pub handled_change : {names : List ℕ} → HandledSet names → Change
handled_change x = change_of x.set.done
