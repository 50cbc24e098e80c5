use Prim.Native.Nat.{◌≤◌, ◌-◌}
use mathlib.Core.Path.{◌≡◌}
use mathlib.Core.Bool.{true}
use Rattle.basics.specs.Scan.{all}
use Rattle.boxes.specs.Settings.{port_clear}
use Rattle.boxes.proofs.settings.settings_right.Given as goal

abbrev pub invariant-loop-position : goal.invariant-loop-position
invariant-loop-position l = (l.position ≤ l.ports) × (all l.position (port_clear l.settings l.ports l.sizes) ≡ true)

abbrev pub decreases-loop-position : goal.decreases-loop-position
decreases-loop-position l = l.ports - l.position
