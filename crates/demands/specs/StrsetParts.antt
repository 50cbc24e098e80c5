-- Demand 2, "Each attribute is shown as its own part of the datagram, inside its parent, apart from its siblings", of a STRSET_GET (request C-13).
use Rattle.std.specs.Prelude.{ℕ, ◌+◌, ◌-◌, ◌≤◌, ◌<◌, ◌≡◌, List, [], ◌∷◌, Bool, true, length, take, drop, Result, Ok, Err}
use Rattle.basics.specs.Numbers.{u32_at}
use Rattle.netlink_attributes.specs.Attributes.{attributes, part_of}
use Rattle.netlink_attributes.specs.Claims.{Apart}
use Rattle.netlink.specs.Claims.{PartsIn}
use Rattle.netlink.specs.declared.policy.Fault.{Fault}
use Rattle.netlink.specs.declared.walk.Slot.{Slot}
use Rattle.refusal.specs.Refusal.{of_fault}
use Rattle.layout.specs.declared.Set.{Set}
use Rattle.request.specs.Header.{flags_judged}
use Rattle.request.specs.Optional.{optional_header_of}
use Rattle.request.specs.declared.parts.HeaderParts.{HeaderParts}
use Rattle.strset_request.specs.Top.{strset_top_of}
use Rattle.strset_request.specs.Set.{id_judged}
use Rattle.strset_request.specs.List.{with_asked, nest_reading}
use Rattle.strset_request.specs.declared.top.StrsetParts.{StrsetParts}
use Rattle.strset_request.specs.declared.list.Sets.{Sets}
use Rattle.strset_request.specs.declared.list.Sets.TheVariants.{Nothing}
use Rattle.demands.specs.Call.{message_of}
use Rattle.demands.specs.Parts.{StandsIn}
use Rattle.refusal.specs.declared.Refusal.{Refusal}
use Rattle.basics.specs.Results.{and_then}

-- what is read of the STRINGSETs behind a place of s, which ends where STRINGSETS ends, after those that asked for some sets: none, where only padding is left; or one with a
-- fault in it; or one by its id, and those behind it
pub data StringSetsRead (s : List ℕ) (named : Bool) : ℕ → Sets → Result Sets Refusal → Type 0 where
  no_set : {at : ℕ} {sets : Sets} → length s < at + 4 → StringSetsRead s named at sets (Ok sets)
  set_fault : {at : ℕ} {sets : Sets} (start end : ℕ) → StandsIn at (length s) start end → (fault : Fault) (place : ℕ) → start ≤ place → place < end
      → StringSetsRead s named at sets (Err (of_fault fault place))
  set_read : {at : ℕ} {sets : Sets} (start end : ℕ) → StandsIn at (length s) start end → (id : Slot) → PartsIn start end (id ∷ []) → (rest : Set → Result Sets Refusal)
      → ((set : Set) → StringSetsRead s named end (with_asked sets set) (rest set))
      → StringSetsRead s named at sets (and_then (id_judged (part_of s 0 end) (start - 4) named id) rest)

-- what is read of STRINGSETS in a message m: a fault in it, or what its STRINGSETs ask for
pub data NestRead (m : List ℕ) (nest : Slot) (named : Bool) : Type 0 where
  nest_fault : (fault : Fault) (place : ℕ) → nest.start ≤ place → place < nest.end → nest_reading m nest named ≡ Err (of_fault fault place) → NestRead m nest named
  nest_read : (list : Result Sets Refusal) → StringSetsRead (part_of m 0 nest.end) named nest.start Nothing list → nest_reading m nest named ≡ list → NestRead m nest named

-- what is read of the header nest of a message m: a fault in it, or what its parts come to
pub data OptionalRead (m : List ℕ) (header : Slot) : Type 0 where
  header_fault : (fault : Fault) (place : ℕ) → header.start ≤ place → place < header.end → optional_header_of m header ≡ Err (of_fault fault place) → OptionalRead m header
  header_read : (parts : HeaderParts) → PartsIn header.start header.end (parts.index ∷ parts.name ∷ parts.flags ∷ [])
      → optional_header_of m header ≡ flags_judged m parts → OptionalRead m header

-- the nests of a STRSET_GET m: header, STRINGSETS and COUNTS_ONLY in the message, what is read of the header in the header, what is read of STRINGSETS in STRINGSETS
pub record NamesNests (m : List ℕ) (top : StrsetParts) : Type 0 where
  pub nests : PartsIn 20 (length m) (top.header ∷ top.sets ∷ top.counts ∷ [])
  pub header : OptionalRead m top.header
  pub sets : (named : Bool) → top.sets.present ≡ true → NestRead m top.sets named

-- an admitted STRSET_GET: the message is the bytes of the datagram from the position to position + length; its attributes stand behind byte 20, one after the other; and its
-- nests are as said
pub record NamesParts (datagram : List ℕ) (position : ℕ) : Type 0 where
  pub message : message_of datagram position ≡ take (u32_at datagram position) (drop position datagram)
  pub inside : position + u32_at datagram position ≤ length datagram
  pub size : length (message_of datagram position) ≡ u32_at datagram position
  pub headers : 20 ≤ u32_at datagram position
  pub in_order : Apart (message_of datagram position) 20 (attributes (message_of datagram position) 20)
  pub nested : (top : StrsetParts) → strset_top_of (message_of datagram position) ≡ Ok top → NamesNests (message_of datagram position) top
