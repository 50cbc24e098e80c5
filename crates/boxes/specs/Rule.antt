-- The rules of the box (document 01, "The box a call is given"; refusal 1: "box breaks a rule above"; request C-11: "1 for a place above the port count").
use Rattle.std.specs.Prelude.{ℕ, Bool, ◌&&◌, leb}
use Rattle.names.specs.Rule.{names_right}
use Rattle.roll_rule.specs.Rule.{roll_right}
use Rattle.layout.specs.Layout.{Names, list_of, every_set}
use Rattle.boxes.specs.declared.Call.{Call}
use Rattle.boxes.specs.Box.{Box, State, ports_in, sizes_in}
use Rattle.boxes.specs.Settings.{settings_right}

-- "Family number, 16 to 65,535"
unfoldable pub family_right : ℕ → Bool
family_right family = leb 16 family && leb family 65535

-- "Whether the sender is admin, yes or no": 1 or 0
unfoldable pub admin_right : ℕ → Bool
admin_right admin = leb admin 1

-- 0 for the first port, "the port count for DONE"
unfoldable pub place_right : ℕ → ℕ → Bool
place_right ports place = leb place ports

-- the name list of every set
unfoldable pub lists_right : Names → Bool
lists_right names = every_set (λ set. names_right (list_of names set))

-- the box breaks no rule: family, admin, roll, place, name lists, settings
unfoldable pub box_right : Box → State → Call → Bool
box_right box state call =
    family_right call.family
    && (admin_right call.admin
    && (roll_right box.roll
    && (place_right (ports_in box) call.place
    && (lists_right box.names && settings_right state.words (ports_in box) (sizes_in box)))))
