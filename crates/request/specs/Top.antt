-- Document 01, "What a call says back", levels: "top level is walked whole (10, 11, 12 for each attribute in turn), then header missing (13),
-- then bitset missing in a SET (13)".
use Rattle.std.specs.Prelude.{ℕ, List, Bool, ◌&&◌, not, cond, Result, Ok, Err}
use Rattle.netlink.specs.Walk.{walked}
use Rattle.refusal.specs.Refusal.{on_walk}
use Rattle.refusal.specs.declared.Refusal.TheVariants.{MissingTop}
use Rattle.request.specs.Policies.{top_policy}
use Rattle.request.specs.Parts.{top_parts}
use Rattle.request.specs.declared.parts.TopParts.{TopParts}
use Rattle.refusal.specs.declared.Refusal.{Refusal}

-- the header (1) missing, then the bitset (2) in a SET
unfoldable pub nests_of : Bool → TopParts → Result TopParts Refusal
nests_of change parts =
    cond (not parts.header.present) (Err (MissingTop 1))
    (cond (change && not parts.bitset.present) (Err (MissingTop 2))
    (Ok parts))

-- the top level of the message m, whose attributes follow its two headers of 16 and 4 bytes
unfoldable pub top_of : List ℕ → Bool → Result TopParts Refusal
top_of m change = on_walk (walked (top_policy change) m 20) Err (λ slots. nests_of change (top_parts slots))
