-- No promise rests on this file: that a plan names a port of the roll, which carrying it out requires.
use Rattle.std.specs.Prelude.{ℕ, ◌<◌, List}
use Rattle.roll.specs.Record.{port_count}
use Rattle.decision.specs.declared.Plan.{Plan}
use Rattle.decision.specs.declared.Plan.TheVariants as P

-- the port that a plan names is one of the roll's
unfoldable pub PortIn : List ℕ → Plan → Type 0
PortIn roll (P.Dump flags) = Unit {0}
PortIn roll (P.Get target) = target.position < port_count roll
PortIn roll (P.Set position nest form) = position < port_count roll
