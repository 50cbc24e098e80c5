-- Request C-13: what a STRSET_GET asks for, level by level: the top level, the header, then STRINGSETS.
use Rattle.std.specs.Prelude.{ℕ, List, Bool, cond, is_some, Option, Some, None, Result, Ok, Err}
use Rattle.basics.specs.Results.{and_then}
use Rattle.layout.specs.declared.Set.TheVariants.{Debug, Flags}
use Rattle.request.specs.Optional.{optional_target_of}
use Rattle.strset_request.specs.Top.{strset_top_of}
use Rattle.strset_request.specs.List.{list_reading}
use Rattle.strset_request.specs.declared.top.StrsetParts.{StrsetParts}
use Rattle.strset_request.specs.declared.list.Sets.{Sets}
use Rattle.strset_request.specs.declared.list.Sets.TheVariants.{Nothing, One, Both}
use Rattle.refusal.specs.declared.Refusal.{Refusal}
use Rattle.strset_request.specs.declared.asked.Asked.{Asked}
use Rattle.request.specs.declared.target.Addressee.{Addressee}
use Rattle.request.specs.declared.target.Addressee.TheVariants as T

-- "Without a list, or with an empty one: private flags if a port is named, else message classes"
unfoldable pub or_default : Sets → Bool → Sets
or_default Nothing named = One (cond named Flags Debug)
or_default (One set) named = One set
or_default (Both first) named = Both first

-- the sets that are listed, or why not; with COUNTS_ONLY or without
abbrev pub with_sets : Result Sets Refusal → Option ℕ → Bool → Result Asked Refusal
with_sets (Err why) port counts = Err why
with_sets (Ok sets) port counts = Ok (record { port = port; sets = or_default sets (is_some port); counts = counts })

-- a refusal of the header level, or what its port comes to, if it names one
abbrev pub on_target : Result Addressee Refusal → (Option ℕ → Result Asked Refusal) → Result Asked Refusal
on_target (Err why) rest = Err why
on_target (Ok (T.Unnamed flags)) rest = rest None
on_target (Ok (T.Port target)) rest = rest (Some target.position)

-- STRINGSETS, for a port or for none
unfoldable pub sets_asked : List ℕ → StrsetParts → Option ℕ → Result Asked Refusal
sets_asked m parts port = with_sets (list_reading m parts.sets (is_some port)) port parts.counts.present

-- "top level whole, 13 .., header whole, 15 .., 16, 17 where a port is named, STRINGSETS walked whole, then each STRINGSET in order"
unfoldable pub asked_of : List ℕ → List ℕ → Result Asked Refusal
asked_of m roll = and_then (strset_top_of m) (λ parts. on_target (optional_target_of m parts.header roll) (sets_asked m parts))
