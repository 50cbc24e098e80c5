-- Request C-13: the top level of a STRSET_GET, "walked whole", then 13 for a missing header nest.
use Rattle.std.specs.Prelude.{ℕ, List, not, cond, get_or, Result, Ok, Err}
use Rattle.netlink.specs.Walk.{absent, walked}
use Rattle.netlink.specs.declared.walk.Slot.{Slot}
use Rattle.refusal.specs.Refusal.{on_walk}
use Rattle.refusal.specs.declared.Refusal.TheVariants.{MissingTop}
use Rattle.strset_request.specs.Policies.{strset_policy}
use Rattle.strset_request.specs.declared.top.StrsetParts.{StrsetParts}
use Rattle.refusal.specs.declared.Refusal.{Refusal}

-- 1 header; 2 STRINGSETS; 3 COUNTS_ONLY
unfoldable pub strset_parts : List Slot → StrsetParts
strset_parts slots = record { header = get_or slots 1 absent; sets = get_or slots 2 absent; counts = get_or slots 3 absent }

-- "13 for a missing header nest (it is not lifted; only 14 falls away)"
unfoldable pub with_header : StrsetParts → Result StrsetParts Refusal
with_header parts = cond (not parts.header.present) (Err (MissingTop 1)) (Ok parts)

-- the top level of the message m, whose attributes follow its two headers of 16 and 4 bytes
unfoldable pub strset_top_of : List ℕ → Result StrsetParts Refusal
strset_top_of m = on_walk (walked strset_policy m 20) Err (λ slots. with_header (strset_parts slots))
