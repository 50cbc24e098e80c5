-- What C gets back from `ethnl_check_box`: the number of a part of the box, and an offset in it.
use Rattle.std.specs.Prelude.{ℕ, ◌≤◌, ◌<◌, ◌≡◌, List}
use Rattle.boxes.specs.Box.{ports_in}
use Rattle.box_fault.specs.Fault.{box_fault}
use Rattle.demands.specs.BoxRules.{StoredRules}
use Rattle.demands.specs.BoxFault.{BoxParts, call_at, Exactly, FaultTold}
use Rattle.ethnl.specs.Exported.{CheckBox}
use Rattle.exported.specs.Returned.{Lent, Left, Leaves}

-- what it leaves: the number that it returns, and the offset behind its pointer
pub record CheckLeft : Type 0 where
  pub number : ℕ
  pub offset : ℕ

-- the contract of `ethnl_check_box`, for the parts that it is lent and what it leaves
abbrev pub CheckLeaves : BoxParts → CheckLeft → Type 0
CheckLeaves c r = CheckBox (box_fault c.family c.admin c.box c.settings.settings) r.offset r.number

-- a call of `ethnl_handle` that is lent the same parts, at a position and a place
abbrev pub lent_with : BoxParts → ℕ → ℕ → List ℕ → List ℕ → Lent
lent_with c position place datagram page =
    record { box = c.box; settings = c.settings; call = call_at c position place; datagram = datagram; page = page }

-- what C gets back: number and offset as `FaultTold` says; 0 exactly where the box keeps the rules of document 01, and exactly where `ethnl_handle`, at a place up to the port
-- count and whatever else it is lent, does not refuse by 1; where it is not 0 every such call is refused by 1, and where the place is above the port count too
pub record Checked (c : BoxParts) (r : CheckLeft) : Type 0 where
  pub told : FaultTold c r.number r.offset
  pub rules : Exactly (r.number ≡ 0) ((position place : ℕ) → place ≤ ports_in c.box → StoredRules c.box c.settings (call_at c position place))
  pub handled : (position place : ℕ) (datagram page : List ℕ) (left : Left) → place ≤ ports_in c.box → Leaves (lent_with c position place datagram page) left
      → Exactly (r.number ≡ 0) (left.refusal ≡ 1 → ⊥)
  pub refused : (position place : ℕ) (datagram page : List ℕ) (left : Left) → Leaves (lent_with c position place datagram page) left
      → 0 < r.number → (left.kind ≡ 3) × (left.refusal ≡ 1)
  pub above : (position place : ℕ) (datagram page : List ℕ) (left : Left) → ports_in c.box < place → Leaves (lent_with c position place datagram page) left
      → (left.kind ≡ 3) × (left.refusal ≡ 1)
