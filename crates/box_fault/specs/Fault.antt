-- Which part of a box breaks a rule first (document 01, "The box a call is given"), and where.
use Rattle.std.specs.Prelude.{ℕ, List, not, cond, Option, Some, None}
use Rattle.names.specs.Rule.{names_right}
use Rattle.roll_rule.specs.Rule.{roll_right}
use Rattle.boxes.specs.Box.{Box, ports_in, sizes_in}
use Rattle.boxes.specs.Rule.{family_right, admin_right}
use Rattle.box_fault.specs.Longest.{right_up_to}
use Rattle.box_fault.specs.Settings.{fault_at, settings_fault}
use Rattle.box_fault.specs.declared.Fault.{Fault}
use Rattle.box_fault.specs.declared.Part.{Part}
use Rattle.box_fault.specs.declared.Part.TheVariants.{Family, Admin, Roll, DebugNames, FlagNames, Settings}

-- the number of a part, in the order in which the parts are judged
abbrev pub part_number : Part → ℕ
part_number Family = 1
part_number Admin = 2
part_number Roll = 3
part_number DebugNames = 4
part_number FlagNames = 5
part_number Settings = 6

-- what C is told: the number of the part at fault, 0 where no part breaks a rule
abbrev pub fault_number : Option Fault → ℕ
fault_number None = 0
fault_number (Some f) = part_number f.part

-- and the offset in it, 0 where no part does
abbrev pub fault_offset : Option Fault → ℕ
fault_offset None = 0
fault_offset (Some f) = f.offset

-- the first part at fault, none in a sound box: family, admin, roll, debug names, flag names, settings
unfoldable pub box_fault : ℕ → ℕ → Box → List ℕ → Option Fault
box_fault family admin box settings =
    cond (not (family_right family)) (fault_at Family 0)
    (cond (not (admin_right admin)) (fault_at Admin 0)
    (cond (not (roll_right box.roll)) (fault_at Roll (right_up_to roll_right box.roll))
    (cond (not (names_right box.names.debug)) (fault_at DebugNames (right_up_to names_right box.names.debug))
    (cond (not (names_right box.names.flags)) (fault_at FlagNames (right_up_to names_right box.names.flags))
    (settings_fault settings (ports_in box) (sizes_in box))))))
