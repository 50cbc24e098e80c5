-- No promise rests on this file: that the port which is named is one of the roll's, which writing the reply requires.
use Rattle.std.specs.Prelude.{ℕ, ◌<◌, List, Option, Some, None}
use Rattle.roll.specs.Record.{port_count}

-- the port that is named, if any, stands in the roll
unfoldable pub PortNamed : List ℕ → Option ℕ → Type 0
PortNamed roll None = Unit {0}
PortNamed roll (Some position) = position < port_count roll
