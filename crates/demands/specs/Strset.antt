-- Request C-13: the checks of a STRSET_GET in their order, behind those of its admission: "top level whole, 13 for a missing header nest .., header whole, 15 (also without
-- a port), 16, 17 where a port is named, STRINGSETS walked whole, then each STRINGSET in order: walked whole, 13, 24; then 25".
use Rattle.std.specs.Prelude.{ℕ, ◌-◌, List, [], ◌∷◌, ◌++◌, Bool, false, ◌&&◌, ◌||◌, not, cond, length, get_or, eqb, ltb, Result, Ok, Err}
use Rattle.netlink_attributes.specs.Attributes.{Attributes, attributes, part_of}
use Rattle.netlink_attributes.specs.Attributes.Attributes.{done, broken, attribute}
use Rattle.netlink.specs.Walk.{absent, walked, slot_number}
use Rattle.netlink.specs.declared.walk.Slot.{Slot}
use Rattle.netlink_headers.specs.declared.headers.MessageHeader.{MessageHeader}
use Rattle.refusal.specs.declared.Refusal.TheVariants as R
use Rattle.boxes.specs.Box.{Box}
use Rattle.request.specs.Policies.{header_policy}
use Rattle.request.specs.Parts.{header_parts}
use Rattle.request.specs.declared.parts.HeaderParts.{HeaderParts}
use Rattle.strset_request.specs.Policies.{strset_policy, string_sets_policy, string_set_policy}
use Rattle.strset_request.specs.Top.{strset_parts}
use Rattle.strset_request.specs.Asked.{asked_of}
use Rattle.strset_request.specs.declared.top.StrsetParts.{StrsetParts}
use Rattle.strset.specs.Strset.{strset_content_in, strset_bytes}
use Rattle.demands.specs.Check.{Check, refuse_if, walks, walk_checks}
use Rattle.demands.specs.PortChecks.{named_port_checks}
use Rattle.refusal.specs.declared.Refusal.{Refusal}
use Rattle.strset_request.specs.declared.asked.Asked.{Asked}

-- "id not offered, or 2 without a port"
unfoldable pub not_offered : Bool → ℕ → Bool
not_offered named id = not (eqb id 10 || (eqb id 2 && named))

-- 13 and 24 of the STRINGSET at a place, from its id
unfoldable pub id_checks : List ℕ → Bool → ℕ → Slot → List Check
id_checks s named nest id =
    refuse_if (not id.present) (R.MissingIn 1 nest) ∷ refuse_if (not_offered named (slot_number s id)) (R.NotOffered (id.start - 4)) ∷ []

-- each STRINGSET in its turn: 10 to 12, 13, 24
unfoldable pub each_set : List ℕ → Bool → Attributes → List Check
each_set s named done = []
each_set s named (broken at) = []
each_set s named (attribute k b a e rest) =
    walk_checks (walked string_set_policy (part_of s 0 e) a) (λ slots. id_checks (part_of s 0 e) named (a - 4) (get_or slots 1 absent))
    ++ each_set s named rest

-- STRINGSETS, where it stands: walked whole, then each STRINGSET
unfoldable pub sets_checks : List ℕ → Slot → Bool → List Check
sets_checks m nest named =
    cond nest.present
    (walks (walked string_sets_policy (part_of m 0 nest.end) nest.start).stop
    ∷ each_set (part_of m 0 nest.end) named (attributes (part_of m 0 nest.end) nest.start))
    []

-- from the header's parts: 15; 16 and 17 where a port is named; STRINGSETS
unfoldable pub strset_port_checks : List ℕ → List ℕ → StrsetParts → HeaderParts → List Check
strset_port_checks m roll parts header =
    refuse_if (ltb 3 (slot_number m header.flags)) (R.HeaderFlag (header.flags.start - 4))
    ∷ (named_port_checks m roll parts.header header
    ++ sets_checks m parts.sets (header.index.present || header.name.present))

-- from the parts of the top level: 13, then the header
unfoldable pub strset_level_checks : List ℕ → List ℕ → StrsetParts → List Check
strset_level_checks m roll parts =
    refuse_if (not parts.header.present) (R.MissingTop 1)
    ∷ walk_checks (walked header_policy (part_of m 0 parts.header.end) parts.header.start) (λ slots. strset_port_checks m roll parts (header_parts slots))

-- the reply to what is asked for, with its ACK, is over 32,768 bytes; what is refused before has none
unfoldable pub too_long : Box → List ℕ → MessageHeader → Result Asked Refusal → Bool
too_long box m h (Err why) = false
too_long box m h (Ok asked) = ltb 32768 (length (strset_bytes m h (strset_content_in box asked)))

-- the message m with its header h: what it asks for, level by level, then 25
unfoldable pub strset_checks : Box → List ℕ → MessageHeader → List Check
strset_checks box m h =
    walk_checks (walked strset_policy m 20) (λ slots. strset_level_checks m box.roll (strset_parts slots))
    ++ (refuse_if (too_long box m h (asked_of m box.roll)) R.LongReply ∷ [])
