-- What the theorems say of the exported handler, which is lent the settings as bytes. Document 01, "What the box reads and writes": "settings as
-- the little-endian bytes of their words".
use Rattle.std.specs.Prelude.{ℕ, ◌+◌, ◌*◌, ◌%◌, ◌≤◌, ◌<◌, ◌≡◌, List, Bool, true, ◌&&◌, ◌⊎◌, length, get_or, eqb}
use Rattle.netlink_headers.specs.declared.headers.MessageHeader.{MessageHeader}
use Rattle.boxes.specs.Box.{Box, State, place_in, width_in}
use Rattle.boxes.specs.declared.Call.{Call}
use Rattle.boxes.specs.Rule.{box_right}
use Rattle.response.specs.Answer.{Outcome}
use Rattle.handler.specs.Bytes.{Stored, in_words}
use Rattle.demands.specs.Done.{DoneSet}

-- whole words, which make a box that breaks no rule
unfoldable pub stored_right : Box → Stored → Call → Bool
stored_right box stored call = eqb (length stored.settings % 4) 0 && box_right box (in_words stored) call

-- the outcome, its settings read as words
abbrev pub as_words : Outcome Stored → Outcome State
as_words o = record { response = o.response; state = in_words o.state }

-- a done SET: as over words; no byte outside the named set changes, the settings keep their length, and the box stays right
pub record DoneSetStored (box : Box) (stored : Stored) (call : Call) (m : List ℕ) (h : MessageHeader) (o : Outcome Stored) : Type 0 where
  pub done : DoneSet box (in_words stored) call m h (as_words o)
  pub size : length o.state.settings ≡ length stored.settings
  pub elsewhere : (k : ℕ)
      → (k < place_in box done.named.target.position done.named.command.set * 4)
      ⊎ ((place_in box done.named.target.position done.named.command.set + width_in box done.named.command.set) * 4 ≤ k)
      → get_or o.state.settings k 0 ≡ get_or stored.settings k 0
  pub right : stored_right box o.state call ≡ true
