-- Request C-13: a reply to STRSET_GET as a client reads it, walked by our own walk.
use Rattle.std.specs.Prelude.{ℕ, zero, suc, Bool, cond, List, [], ◌∷◌, ◌++◌, get_or, take}
use Rattle.entries.specs.Entry.{count, entry_at}
use Rattle.netlink_attributes.specs.Attributes.{Attributes, attributes, part_of}
use Rattle.netlink_attributes.specs.Attributes.Attributes.{done, broken, attribute}
use Rattle.netlink.specs.Policy.{nul_at}
use Rattle.netlink.specs.Walk.{absent, walked, slot_number}
use Rattle.netlink.specs.declared.policy.Rule.{Rule}
use Rattle.netlink.specs.declared.policy.Rule.TheVariants.{Unlisted, Nest, Number, Name}
use Rattle.netlink.specs.declared.walk.Slot.{Slot}
use Rattle.netlink.specs.declared.walk.Stop.{Stop}
use Rattle.netlink.specs.declared.walk.Stop.TheVariants as S
use Rattle.netlink.specs.declared.walk.Walked.{Walked}
use Rattle.layout.specs.Layout.{Names, list_of}
use Rattle.layout.specs.declared.Set.{Set}
use Rattle.strset_request.specs.Set.{id_of}
use Rattle.strset_request.specs.declared.list.Sets.{Sets}
use Rattle.strset_request.specs.declared.list.Sets.TheVariants.{Nothing, One, Both}
use Rattle.strset_reply.specs.Sets.{other_set}
use Rattle.strset_reply.specs.Message.{StrsetContent}

-- a number and the bytes of a name: of a STRING, or of a port
pub record ToldName : Type 0 where
  pub index : ℕ
  pub name : List ℕ

-- what a STRINGSET tells
pub record ToldSet : Type 0 where
  pub id : ℕ
  pub count : ℕ
  pub strings : List ToldName

-- what a reply tells: its port, if it has a header nest, and the sets in order
pub record ToldReply : Type 0 where
  pub port : List ToldName
  pub sets : List ToldSet

-- what a client reads, or a fault of what it was sent
pub data Told (A : Type 0) : Type 0 where
  fault : Told A
  told : A → Told A

-- what comes of a thing that is told
abbrev pub on_told : {A B : Type 0} → Told A → (A → Told B) → Told B
on_told fault rest = fault
on_told (told x) rest = rest x

-- what the slots of a parent that is right as a whole tell
abbrev pub on_whole : {A : Type 0} → Stop → Told A → Told A
on_whole S.Whole rest = rest
on_whole (S.At f at) rest = fault

-- a walk, then what its slots tell
abbrev pub on_slots : {A : Type 0} → Walked → (List Slot → Told A) → Told A
on_slots w rest = on_whole w.stop (rest w.slots)

-- each attribute of a parent in turn
unfoldable pub each_told : {A : Type 0} → (ℕ → ℕ → Told A) → Attributes → Told (List A)
each_told read done = told []
each_told read (broken at) = fault
each_told read (attribute k b a e rest) = on_told (read a e) (λ x. on_told (each_told read rest) (λ xs. told (x ∷ xs)))

-- a nest of a STRING or a port: 1 INDEX u32, 2 VALUE or NAME, a name of 1 to 32 bytes
abbrev pub name_policy : List Rule
name_policy = Unlisted ∷ Number ∷ Name 32 ∷ Unlisted ∷ Unlisted ∷ Unlisted ∷ Unlisted ∷ Unlisted ∷ []

-- STRINGSETS and STRINGS: nests of type 1, any number
abbrev pub nests_policy : List Rule
nests_policy = Unlisted ∷ Nest ∷ Unlisted ∷ Unlisted ∷ Unlisted ∷ Unlisted ∷ Unlisted ∷ Unlisted ∷ []

-- a STRINGSET: 1 ID u32, 2 COUNT u32, 3 STRINGS (nest)
abbrev pub set_policy : List Rule
set_policy = Unlisted ∷ Number ∷ Number ∷ Nest ∷ Unlisted ∷ Unlisted ∷ Unlisted ∷ Unlisted ∷ []

-- the reply's top level: 1 header (nest), 2 STRINGSETS (nest)
abbrev pub reply_policy : List Rule
reply_policy = Unlisted ∷ Nest ∷ Nest ∷ Unlisted ∷ Unlisted ∷ Unlisted ∷ Unlisted ∷ Unlisted ∷ []

-- the bytes of a name before its NUL
unfoldable pub bytes_before : List ℕ → List ℕ
bytes_before name = take (nul_at name) name

-- the nest whose contents stand from a to e: both attributes must stand in it
unfoldable pub name_told : List ℕ → ℕ → ℕ → Told ToldName
name_told s a e =
    on_slots (walked name_policy (part_of s 0 e) a)
    (λ slots. cond (get_or slots 1 absent).present (cond (get_or slots 2 absent).present
    (told (record {
      index = slot_number s (get_or slots 1 absent);
      name = bytes_before (part_of s (get_or slots 2 absent).start (get_or slots 2 absent).end);
    })) fault) fault)

-- the nests of a slot, each read; nothing where it is absent
unfoldable pub nests_told : {A : Type 0} → List ℕ → (ℕ → ℕ → Told A) → Slot → Told (List A)
nests_told s read slot =
    cond slot.present
    (on_slots (walked nests_policy (part_of s 0 slot.end) slot.start) (λ slots. each_told read (attributes (part_of s 0 slot.end) slot.start)))
    (told [])

-- a STRINGSET: ID and COUNT must stand in it
unfoldable pub set_told : List ℕ → ℕ → ℕ → Told ToldSet
set_told s a e =
    on_slots (walked set_policy (part_of s 0 e) a)
    (λ slots. cond (get_or slots 1 absent).present (cond (get_or slots 2 absent).present
    (on_told (nests_told s (name_told s) (get_or slots 3 absent))
    (λ strings. told (record { id = slot_number s (get_or slots 1 absent); count = slot_number s (get_or slots 2 absent); strings = strings })))
    fault) fault)

-- the port of the header nest, if there is one
unfoldable pub port_told : List ℕ → Slot → Told (List ToldName)
port_told s slot = cond slot.present (on_told (name_told s slot.start slot.end) (λ x. told (x ∷ []))) (told [])

-- a whole reply, whose attributes follow its two headers of 16 and 4 bytes
unfoldable pub reply_told : List ℕ → Told ToldReply
reply_told s =
    on_slots (walked reply_policy s 20)
    (λ slots. on_told (port_told s (get_or slots 1 absent))
    (λ port. on_told (nests_told s (set_told s) (get_or slots 2 absent)) (λ sets. told (record { port = port; sets = sets }))))

-- the entries of a list below n, with their numbers and the bytes before their NULs
unfoldable pub entries_below : List ℕ → ℕ → List ToldName
entries_below names zero = []
entries_below names (suc n) = entries_below names n ++ (record { index = n; name = bytes_before (entry_at names n) } ∷ [])

-- what must be told of a set: its id, its count and, unless the count alone is asked for, every entry
unfoldable pub set_owed : Bool → Names → Set → ToldSet
set_owed counts names set =
    record { id = id_of set; count = count (list_of names set); strings = cond counts [] (entries_below (list_of names set) (count (list_of names set))) }

-- "each set in the order in which its id first stands", once
unfoldable pub sets_owed : Bool → Names → Sets → List ToldSet
sets_owed counts names Nothing = []
sets_owed counts names (One set) = set_owed counts names set ∷ []
sets_owed counts names (Both first) = set_owed counts names first ∷ set_owed counts names (other_set first) ∷ []

-- what a reply about this must tell: the header nest exactly where a port is named
unfoldable pub reply_owed : StrsetContent → ToldReply
reply_owed content =
    record {
      port = cond content.named (record { index = content.index; name = bytes_before content.name } ∷ []) [];
      sets = sets_owed content.counts content.names content.sets;
    }
