-- Where settings break their rule, in a box whose roll and name lists are right.
use Rattle.std.specs.Prelude.{ℕ, ◌*◌, min, List, Bool, not, cond, length, replicate, eqb, Option, Some, None}
use Rattle.basics.specs.Put.{put}
use Rattle.word_bytes.specs.Bytes.{words_in}
use Rattle.layout.specs.declared.Sizes.{Sizes}
use Rattle.layout.specs.Layout.{widths_of, total_words}
use Rattle.boxes.specs.Settings.{settings_right}
use Rattle.box_fault.specs.Longest.{right_up_to}
use Rattle.box_fault.specs.declared.Fault.{Fault}
use Rattle.box_fault.specs.declared.Part.{Part}
use Rattle.box_fault.specs.declared.Part.TheVariants.{Settings}

-- a fault of a part, at an offset in it
abbrev pub fault_at : Part → ℕ → Option Fault
fault_at part offset = Some (record { part = part; offset = offset })

-- the right length of the settings: 4 bytes for each word of all ports' sets
abbrev pub right_length : ℕ → Sizes → ℕ
right_length ports sizes = total_words ports (widths_of sizes) * 4

-- words with zeros behind them, up to the words of all ports
unfoldable pub with_zeros : ℕ → Sizes → List ℕ → List ℕ
with_zeros ports sizes words = put (replicate (total_words ports (widths_of sizes)) 0) words

-- these are right
unfoldable pub right_with_zeros : ℕ → Sizes → List ℕ → Bool
right_with_zeros ports sizes words = settings_right (with_zeros ports sizes words) ports sizes

-- of another length: the smaller of the two lengths; else where the longest beginning of whole words ends that is right with zeros behind it; none where all are right
unfoldable pub settings_fault : List ℕ → ℕ → Sizes → Option Fault
settings_fault settings ports sizes =
    cond (not (eqb (length settings) (right_length ports sizes))) (fault_at Settings (min (length settings) (right_length ports sizes)))
    (cond (not (settings_right (words_in settings) ports sizes)) (fault_at Settings (right_up_to (right_with_zeros ports sizes) (words_in settings) * 4))
    None)
