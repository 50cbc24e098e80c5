-- Request C-13: what a STRSET_GET asks for, and so what its reply tells, by the attributes that stand in it.
use Rattle.std.specs.Prelude.{ℕ, List, [], ◌∷◌, ◌≡◌, Bool, false, ◌||◌, cond, eqb}
use Rattle.entries.specs.Entry.{count}
use Rattle.netlink_attributes.specs.Attributes.{Attributes, attributes, part_of}
use Rattle.netlink_attributes.specs.Attributes.Attributes.{done, broken, attribute}
use Rattle.netlink.specs.Walk.{absent, last_of_type, slot_number}
use Rattle.netlink.specs.declared.walk.Slot.{Slot}
use Rattle.layout.specs.Layout.{Names}
use Rattle.roll.specs.Record.{port_at}
use Rattle.request.specs.declared.parts.HeaderParts.{HeaderParts}
use Rattle.read_back.specs.Strset.{ToldName, ToldSet, bytes_before, entries_below}
use Rattle.demands.specs.Message.{IsPort}

-- of the attributes of a type at the top level of the message m the last: 1 header, 2 STRINGSETS, 3 COUNTS_ONLY
abbrev pub top_slot : List ℕ → ℕ → Slot
top_slot m kind = last_of_type kind absent (attributes m 20)

-- and of those in its header nest: 1 index, 2 name, 3 flags
abbrev pub header_slot : List ℕ → ℕ → Slot
header_slot m kind = last_of_type kind absent (attributes (part_of m 0 (top_slot m 1).end) (top_slot m 1).start)

-- the parts of the header nest
abbrev pub header_given : List ℕ → HeaderParts
header_given m = record { index = header_slot m 1; name = header_slot m 2; flags = header_slot m 3 }

-- a port is named, by index or by name
abbrev pub port_given : List ℕ → Bool
port_given m = (header_slot m 1).present || (header_slot m 2).present

-- the ids of the STRINGSETs, in order: of each its last ID (1)
unfoldable pub ids_in : List ℕ → Attributes → List ℕ
ids_in s done = []
ids_in s (broken at) = []
ids_in s (attribute k b a e rest) = slot_number (part_of s 0 e) (last_of_type 1 absent (attributes (part_of s 0 e) a)) ∷ ids_in s rest

-- those of STRINGSETS in the message m, none where it is absent
unfoldable pub ids_of : List ℕ → Slot → List ℕ
ids_of m nest = cond nest.present (ids_in (part_of m 0 nest.end) (attributes (part_of m 0 nest.end) nest.start)) []

-- the numbers of a list that are not a given one
unfoldable pub without : ℕ → List ℕ → List ℕ
without x [] = []
without x (y ∷ ys) = cond (eqb x y) (without x ys) (y ∷ without x ys)

-- "answered once, where it first stands"
unfoldable pub once : List ℕ → List ℕ
once [] = []
once (x ∷ xs) = x ∷ without x (once xs)

-- the ids that a reply owes: "Without a list, or with an empty one: private flags (2) if a port is named, else message classes (10)"
unfoldable pub ids_owed : Bool → List ℕ → List ℕ
ids_owed named [] = cond named 2 10 ∷ []
ids_owed named (x ∷ xs) = once (x ∷ xs)

-- "private flags (id 2) and message classes (id 10, our debug names)": the list with an id
unfoldable pub list_with : Names → ℕ → List ℕ
list_with names id = cond (eqb id 2) names.flags names.debug

-- what is told of a set: its id, its count and, unless COUNTS_ONLY stands, every entry of its list
unfoldable pub set_with : Bool → Names → ℕ → ToldSet
set_with counts names id =
    record { id = id; count = count (list_with names id); strings = cond counts [] (entries_below (list_with names id) (count (list_with names id))) }

-- of each set, in the order of the ids
unfoldable pub sets_with : Bool → Names → List ℕ → List ToldSet
sets_with counts names [] = []
sets_with counts names (id ∷ ids) = set_with counts names id ∷ sets_with counts names ids

-- the sets that the reply to the STRSET_GET m tells
abbrev pub sets_of : List ℕ → Names → List ToldSet
sets_of m names = sets_with (top_slot m 3).present names (ids_owed (port_given m) (ids_of m (top_slot m 2)))

-- the port that it tells: none where none is named, else the one of the roll that the header nest gives, by its index and the bytes of its name
pub data PortOf (roll m : List ℕ) : List ToldName → Type 0 where
  none_named : port_given m ≡ false → PortOf roll m []
  one_named : (k : ℕ) → IsPort roll m (header_given m) k
      → PortOf roll m (record { index = (port_at roll k).index; name = bytes_before (port_at roll k).name } ∷ [])
