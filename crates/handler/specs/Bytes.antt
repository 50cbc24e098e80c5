-- Document 01, "What the box reads and writes": "settings as the little-endian bytes of their words".
use Rattle.std.specs.Prelude.{ℕ, ◌%◌, List, Bool, ◌&&◌, cond, length, eqb, leb}
use Rattle.word_bytes.specs.Bytes.{words_in, bytes_of}
use Rattle.refusal.specs.declared.Refusal.TheVariants.{Box}
use Rattle.boxes.specs.Box as B
use Rattle.boxes.specs.declared.Call.{Call}
use Rattle.response.specs.Answer.{Outcome, no_bytes, unchanged}
use Rattle.response.specs.declared.Kind.TheVariants.{Refused}
use Rattle.handler.specs.Call.{outcome}

-- the state as it is stored: settings as bytes
pub record Stored : Type 0 where
  pub settings : List ℕ

-- the state, as it is lent
abbrev pub stored_of : List ℕ → Stored
stored_of settings = record { settings = settings }

-- "settings as the little-endian bytes of their words"
abbrev pub in_words : Stored → B.State
in_words stored = record { words = words_in stored.settings }

-- the words as bytes again
abbrev pub as_stored : B.State → Stored
as_stored state = record { settings = bytes_of state.words }

-- the call over the words
unfoldable pub words_outcome : B.Box → Stored → Call → List ℕ → ℕ → Outcome Stored
words_outcome box before call datagram room =
    record { response = (outcome box (in_words before) call datagram room).response; state = as_stored (outcome box (in_words before) call datagram room).state }

-- bytes that are whole words, and no more than the 2,048 words of the largest box
unfoldable pub are_words : List ℕ → Bool
are_words settings = eqb (length settings % 4) 0 && leb (length settings) 8192

-- other bytes break the box: refusal 1
unfoldable pub bytes_outcome : B.Box → Stored → Call → List ℕ → ℕ → Outcome Stored
bytes_outcome box before call datagram room =
    cond (are_words before.settings) (words_outcome box before call datagram room) (unchanged (no_bytes (Refused Box) call.position) before)
