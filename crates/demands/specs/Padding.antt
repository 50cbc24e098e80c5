-- Document 01, "Sizes on the wire": "Padding has no meaning when read", and demand 2, "Each attribute is shown as its own part of the datagram, inside its parent": two
-- datagrams that agree but for paddings. Attribute by attribute, the four bytes of each header are the same; so is each payload, or, where it is a
-- nest, it agrees again in this way. Nothing is said of the bytes between an attribute's stated end and the next attribute.
use Rattle.std.specs.Prelude.{ℕ, ◌+◌, ◌-◌, min, ◌≡◌, List, length}
use Rattle.basics.specs.Numbers.{byte_at}
use Rattle.netlink_attributes.specs.Attributes.{Attributes, attributes, part_of}
use Rattle.netlink_attributes.specs.Attributes.Attributes.{done, broken, attribute}
use Rattle.demands.specs.Call.{message_of}

-- the bytes from start to end are the same
abbrev pub SameBytes : List ℕ → List ℕ → ℕ → ℕ → Type 0
SameBytes s t start end = part_of s start end ≡ part_of t start end

-- how the payloads of an attribute agree, told by its type, its start and its end
abbrev pub Payloads : Type 1
Payloads = ℕ → ℕ → ℕ → Type 0

-- each attribute has the same header, and payloads that agree; of one that is broken, what is left of the header is the same
abbrev pub EachAgrees : List ℕ → List ℕ → Payloads → Attributes → Type 0
EachAgrees s t payloads done = Unit {0}
EachAgrees s t payloads (broken at) = SameBytes s t at (min (at + 4) (length s))
EachAgrees s t payloads (attribute kind bits start end rest) = SameBytes s t (start - 4) start × payloads kind start end × EachAgrees s t payloads rest

-- an attribute of one type is a nest, and agrees as nests do; one of another type agrees otherwise
abbrev pub NestOf : ℕ → ℕ → Type 0 → Type 0 → Type 0
NestOf nest kind agrees otherwise = (kind ≡ nest → agrees) × ((kind ≡ nest → ⊥) → otherwise)

-- a header or a BIT, whose contents are the bytes of s from a position on: no nest stands in it
abbrev pub PlainAgrees : List ℕ → List ℕ → ℕ → Type 0
PlainAgrees s t from = EachAgrees s t (λ kind start end. SameBytes s t start end) (attributes s from)

-- BITS: each BIT (1) is a nest
abbrev pub BitsAgree : List ℕ → List ℕ → ℕ → Type 0
BitsAgree s t from =
    EachAgrees s t (λ kind start end. NestOf 1 kind (PlainAgrees (part_of s 0 end) (part_of t 0 end) start) (SameBytes s t start end)) (attributes s from)

-- a bitset: BITS (3) is a nest
abbrev pub BitsetAgrees : List ℕ → List ℕ → ℕ → Type 0
BitsetAgrees s t from =
    EachAgrees s t (λ kind start end. NestOf 3 kind (BitsAgree (part_of s 0 end) (part_of t 0 end) start) (SameBytes s t start end)) (attributes s from)

-- the top level, behind the two headers of 20 bytes: the header (1) and the bitset (2) are nests
abbrev pub TopAgrees : List ℕ → List ℕ → Type 0
TopAgrees s t =
    EachAgrees s t
    (λ kind start end. NestOf 1 kind (PlainAgrees (part_of s 0 end) (part_of t 0 end) start)
    (NestOf 2 kind (BitsetAgrees (part_of s 0 end) (part_of t 0 end) start) (SameBytes s t start end)))
    (attributes s 20)

-- STRINGSETS: each STRINGSET (1) is a nest
abbrev pub StringSetsAgree : List ℕ → List ℕ → ℕ → Type 0
StringSetsAgree s t from =
    EachAgrees s t (λ kind start end. NestOf 1 kind (PlainAgrees (part_of s 0 end) (part_of t 0 end) start) (SameBytes s t start end)) (attributes s from)

-- the top level of a STRSET_GET: the header (1) and STRINGSETS (2) are nests
abbrev pub StrsetAgrees : List ℕ → List ℕ → Type 0
StrsetAgrees s t =
    EachAgrees s t
    (λ kind start end. NestOf 1 kind (PlainAgrees (part_of s 0 end) (part_of t 0 end) start)
    (NestOf 2 kind (StringSetsAgree (part_of s 0 end) (part_of t 0 end) start) (SameBytes s t start end)))
    (attributes s 20)

-- two messages agree but for paddings: they are as long, their two headers are the same, and their attributes agree, as those of a STRSET_GET (command 1) or of another request
pub record MessagesAgree (s t : List ℕ) : Type 0 where
  pub size : length s ≡ length t
  pub headers : SameBytes s t 0 (min 20 (length s))
  pub attributes-agree : (byte_at s 16 ≡ 1 → ⊥) → TopAgrees s t
  pub names-agree : byte_at s 16 ≡ 1 → StrsetAgrees s t

-- two datagrams, at a position: they are as long, have the same message header there, and their messages agree; all other bytes, the padding behind
-- the message among them, are free
pub record DatagramsAgree (d e : List ℕ) (position : ℕ) : Type 0 where
  pub size : length d ≡ length e
  pub header : SameBytes d e position (position + 16)
  pub messages : MessagesAgree (message_of d position) (message_of e position)
