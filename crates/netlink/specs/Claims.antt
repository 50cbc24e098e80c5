-- What the laws about walks say: that a walk tells the first fault in order, or for each type the last attribute (proofs/walk/Meaning.antt), and
-- that the attributes it tells stand inside their parent and apart from each other (proofs/walk/Place.antt).
use Rattle.std.specs.Prelude.{ℕ, ◌+◌, ◌-◌, ◌≤◌, ◌≡◌, List, [], ◌∷◌, true, ◌⊎◌}
use Rattle.netlink_attributes.specs.Attributes.{Attributes, part_of}
use Rattle.netlink_attributes.specs.Attributes.Attributes.{done, broken, attribute}
use Rattle.netlink.specs.Policy.{rule_of, judged}
use Rattle.netlink.specs.declared.policy.Rule.{Rule}
use Rattle.netlink.specs.declared.policy.Fault.{Fault}
use Rattle.netlink.specs.declared.policy.Fault.TheVariants.{Length}
use Rattle.netlink.specs.declared.policy.Verdict.TheVariants.{Right, Wrong}
use Rattle.netlink.specs.declared.walk.Slot.{Slot}

-- the attributes that are left once those before, each of them right, are passed
pub data Passed (policy : List Rule) (s : List ℕ) : Attributes → Attributes → Type 0 where
  here : {xs : Attributes} → Passed policy s xs xs
  next : {k b a e : ℕ} {rest ys : Attributes} → judged (rule_of policy k) b (part_of s a e) ≡ Right → Passed policy s rest ys
      → Passed policy s (attribute k b a e rest) ys

-- the first of these attributes has this fault, at this place
abbrev pub FaultyHere : List Rule → List ℕ → Fault → ℕ → Attributes → Type 0
FaultyHere policy s fault at done = ⊥
FaultyHere policy s fault at (broken p) = (fault ≡ Length) × (at ≡ p)
FaultyHere policy s fault at (attribute k b a e rest) = (judged (rule_of policy k) b (part_of s a e) ≡ Wrong fault) × (at ≡ a - 4)

-- no attribute has the type
abbrev pub None : ℕ → Attributes → Type 0
None kind done = Unit {0}
None kind (broken p) = Unit {0}
None kind (attribute k b a e rest) = (k ≡ kind → ⊥) × None kind rest

-- an attribute of the type has its payload from start to end, and no later one has the type
abbrev pub LastIs : ℕ → ℕ → ℕ → Attributes → Type 0
LastIs kind start end done = ⊥
LastIs kind start end (broken p) = ⊥
LastIs kind start end (attribute k b a e rest) = ((k ≡ kind) × (a ≡ start) × (e ≡ end) × None kind rest) ⊎ LastIs kind start end rest

-- an attribute, if there is one, stands between two places: the four bytes of its header, then its payload
abbrev pub Inside : ℕ → ℕ → Slot → Type 0
Inside from end slot = slot.present ≡ true → (from + 4 ≤ slot.start) × (slot.start ≤ slot.end) × (slot.end ≤ end)

-- of two attributes, if there are both, one ends no later than the other's header begins
abbrev pub Disjoint : Slot → Slot → Type 0
Disjoint x y = x.present ≡ true → y.present ≡ true → (x.end + 4 ≤ y.start) ⊎ (y.end + 4 ≤ x.start)

-- one attribute and each of some others are disjoint
abbrev pub DisjointFrom : Slot → List Slot → Type 0
DisjointFrom x [] = Unit {0}
DisjointFrom x (y ∷ ys) = Disjoint x y × DisjointFrom x ys

-- the parts of a parent whose contents stand between two places: each inside it, apart from its siblings
abbrev pub PartsIn : ℕ → ℕ → List Slot → Type 0
PartsIn from end [] = Unit {0}
PartsIn from end (x ∷ xs) = Inside from end x × DisjointFrom x xs × PartsIn from end xs
