-- Request C-13: STRINGSETS, walked whole; then each STRINGSET in its turn, "as every BIT is".
use Rattle.std.specs.Prelude.{ℕ, List, Bool, true, false, cond, Result, Ok, Err}
use Rattle.basics.specs.Results.{and_then}
use Rattle.netlink_attributes.specs.Attributes.{Attributes, attributes, part_of}
use Rattle.netlink_attributes.specs.Attributes.Attributes.{done, broken, attribute}
use Rattle.netlink.specs.Walk.{walked}
use Rattle.netlink.specs.declared.walk.Slot.{Slot}
use Rattle.refusal.specs.Refusal.{on_stop}
use Rattle.layout.specs.declared.Set.{Set}
use Rattle.layout.specs.declared.Set.TheVariants.{Debug, Flags}
use Rattle.strset_request.specs.Policies.{string_sets_policy}
use Rattle.strset_request.specs.Set.{set_reading}
use Rattle.strset_request.specs.declared.list.Sets.{Sets}
use Rattle.strset_request.specs.declared.list.Sets.TheVariants.{Nothing, One, Both}
use Rattle.refusal.specs.declared.Refusal.{Refusal}

-- whether two sets are the same
unfoldable pub same_set : Set → Set → Bool
same_set Debug Debug = true
same_set Debug Flags = false
same_set Flags Debug = false
same_set Flags Flags = true

-- "a repeated id is answered once, where it first stands": the sets asked for so far, and one more
unfoldable pub with_asked : Sets → Set → Sets
with_asked Nothing set = One set
with_asked (One first) set = cond (same_set first set) (One first) (Both first)
with_asked (Both first) set = Both first

-- each STRINGSET in turn, after those that asked for some sets; STRINGSETS is walked whole before, so none is broken
unfoldable pub sets_reading : List ℕ → Bool → Sets → Attributes → Result Sets Refusal
sets_reading s named sets done = Ok sets
sets_reading s named sets (broken at) = Ok sets
sets_reading s named sets (attribute k b a e rest) =
    and_then (set_reading (part_of s 0 e) a named) (λ set. sets_reading s named (with_asked sets set) rest)

-- the STRINGSETS of the message m, which is cut at the nest's end: every place counts from the start of m
unfoldable pub nest_reading : List ℕ → Slot → Bool → Result Sets Refusal
nest_reading m nest named =
    on_stop (walked string_sets_policy (part_of m 0 nest.end) nest.start).stop Err
    (sets_reading (part_of m 0 nest.end) named Nothing (attributes (part_of m 0 nest.end) nest.start))

-- without STRINGSETS nothing is listed
unfoldable pub list_reading : List ℕ → Slot → Bool → Result Sets Refusal
list_reading m nest named = cond nest.present (nest_reading m nest named) (Ok Nothing)
