-- No promise rests on this file: what a right box gives of its parts, which inner functions require.
use Rattle.std.specs.Prelude.{ℕ, ◌≤◌, ◌<◌, ◌≡◌, true, length}
use Rattle.bits.specs.Set.{none_from}
use Rattle.layout.specs.Layout.{size_of, total_words}
use Rattle.layout.specs.declared.Set.{Set}
use Rattle.boxes.specs.Box.{Box, State, ports_in, sizes_in, widths_in, set_of}
use Rattle.layout.specs.AtMost.{AtMost}

-- what a right box says of its parts
pub record Fit (box : Box) (state : State) : Type 0 where
  pub ports : ports_in box ≤ 64
  pub few : AtMost 512 (sizes_in box)
  pub exact : length state.words ≡ total_words (ports_in box) (widths_in box)
  pub clear : (position : ℕ) → position < ports_in box → (set : Set) → none_from (set_of box state position set) (size_of (sizes_in box) set) ≡ true
