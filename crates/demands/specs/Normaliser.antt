-- Demands 2 and 3 speak of one bitset: the handler beside the normaliser, which is given the payload of the request's bitset alone.
use Rattle.std.specs.Prelude.{ℕ, ◌≡◌, List, []}
use Rattle.entries.specs.Entry.{count}
use Rattle.netlink_attributes.specs.Attributes.{part_of}
use Rattle.refusal.specs.Refusal.{number_of}
use Rattle.refusal.specs.declared.Refusal.{Refusal}
use Rattle.bitset_form.specs.Bitset.{Bitset}
use Rattle.normal.specs.Normal.{NormalAnswer, normal_form, normalised}
use Rattle.layout.specs.Layout.{list_of}
use Rattle.boxes.specs.Box.{Box}
use Rattle.response.specs.declared.Kind.{Kind}
use Rattle.response.specs.declared.Kind.TheVariants.{Done, Refused}
use Rattle.demands.specs.Message.{Named, Carries}

-- the names of the set that a request is about
abbrev pub names_for : (box : Box) (m : List ℕ) → Named box.roll m → List ℕ
names_for box m n = list_of box.names n.command.set

-- the normaliser's answer on the payload of the request's bitset, into a page of so many bytes
abbrev pub normaliser_answer : (box : Box) (m : List ℕ) → Named box.roll m → ℕ → NormalAnswer
normaliser_answer box m n page = normalised (part_of m n.parts.bitset.start n.parts.bitset.end) (names_for box m n) page

-- the handler's kind and the normaliser's answer: done, and 0 with the normal form of the bitset that is carried out; or refused, and the
-- same number with nothing written
pub data AnsweredAlike (box : Box) (m : List ℕ) (n : Named box.roll m) (page : ℕ) (kind : Kind) : Type 0 where
  both-done : (b : Bitset) → kind ≡ Done → Carries box m n b
      → normaliser_answer box m n page ≡ record { number = 0; bytes = normal_form (count (names_for box m n)) b }
      → AnsweredAlike box m n page kind
  both-refused : (why : Refusal) → kind ≡ Refused why → normaliser_answer box m n page ≡ record { number = number_of why; bytes = [] }
      → AnsweredAlike box m n page kind
